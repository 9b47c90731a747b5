-- How the events of a worker bring what is left to its end.
use Rattle.std.proofs.Common.{◌≡◌, inl, inr, ◌⊎◌, ⊎_elim, ◌+◌, Bool, true, false, ℕ, List, [], ◌∷◌, Option, None, Some, Result, Ok, Err, refl, sym, ap, subst, ◌∙◌, arith}
use Rattle.std.specs.Prelude.{is_some, OnErr}
use Rattle.boxcar.specs.Table.{Where}
use Rattle.occ_types.specs.declared.fault.Fault.{Fault}
use Rattle.occ_model.specs.State.{Write}
use Rattle.occ_model.specs.World.{World}
use Rattle.occ_model.specs.Log.{Case}
use Rattle.occ_model.specs.Replies.{replied}
use Rattle.occ_model.specs.Event.{Item, Request, Alone, Close, Event, Enter, Decide, WriteOne, Finish, BackUp, SerialEnd, Reply, Refused, Entered, Finished, BackedUp, EndedBack, RanAlone}
use Rattle.occ_model.specs.Event as events
use Rattle.occ_model.specs.Step.{Run, Step, refused, starved, taken, validity_of, EndsSerially}
use Rattle.occ_model.specs.declared.verdict.Verdict.{Verdict}
use Rattle.occ_model.specs.declared.verdict.Verdict.TheVariants as verdicts
use Rattle.occ_model.specs.declared.verdict.Cause.{Cause}
use Rattle.occ_queue.specs.Items.{number_of}
use Rattle.occ_store.specs.Locked.{Locked, world_of, rows_entered}
use Rattle.occ_store.specs.Lanes.{Left, Nothing, Kept, Open, Decided, number_left}
use Rattle.occ_case.specs.declared.ended.Ended.TheVariants as ends
use Rattle.occ_history.specs.History.{FrontView}
use Rattle.occ_store.specs.Names.{Named, opened_as}
use Rattle.occ_store.specs.Standing.{StandsIn, GoesOnTo}
use Rattle.occ_store.specs.Workers.{WorkerView, End, ComesIn, Concludes, DecidedSo, EndsAtOnce, Over, LeftIsOver, IsRefused, Refusals, Writes, StandsAfter, IsKept, IsAnswered, IsWritten, IsFinished, IsAnsweredBack, Takes, Commits, TakesIn, ConcludesAs, Advances, answer_deciding, left_deciding, left_taking, unentered, holding, GoesOn, LeftOf, StaysLeft, HappensTo}
use Rattle.occ_store.proofs.Histories.{tells_stands, on_self, on_same, on_trans, on_stands, stood, stood_on, stood_sooner, stood_later}
use Rattle.occ_store.proofs.Points.{untrue}

-- ---- one event, on the locked state

module _ (seen old : WorkerView) (shared new : Locked) (result : Result (Option End) Fault) (is : seen ≡ old) where
  -- an item comes in
  pub begun_with : (item : Item) (number session : ℕ) → number ≡ number_of item → session ≡ seen.session → (left : Left) (entered : ℕ) (front : FrontView) → (reply : Reply)
      × Takes seen.front seen.session item shared reply front new
      × IsAnswered reply result
      × (left ≡ left_taking item reply)
      × (entered ≡ seen.entered + rows_entered reply)
      → TakesIn (holding old item) item shared result (record seen { session = session; last = number; left = left; entered = entered; front = front }) new
  begun_with item number session n same left entered front step =
      subst (λ (w : WorkerView). TakesIn (holding w item) item shared result (record seen { session = session; last = number; left = left; entered = entered; front = front }) new) is
      (step.0, step.1, step.2, λ i. record seen { session = same i; last = n i; left = step.3 i; entered = step.4 i; front = front })

  pub went_in : (item : Item) (session : ℕ) → seen.left ≡ Kept item → session ≡ seen.session → (left : Left) (entered : ℕ) (front : FrontView) → (reply : Reply)
      × Takes seen.front seen.session item shared reply front new
      × IsAnswered reply result
      × (left ≡ left_taking item reply)
      × (entered ≡ seen.entered + rows_entered reply)
      → Advances old old.left shared result (record seen { session = session; left = left; entered = entered; front = front }) new
  went_in item session at same left entered front step =
      let after : WorkerView = record seen { session = session; left = left; entered = entered; front = front } in
      let goes : Advances seen (Kept item) shared result after new = (step.0, step.1, step.2, λ i. record seen { session = same i; left = step.3 i; entered = step.4 i; front = front }) in
      subst (λ (w : WorkerView). Advances w w.left shared result after new) is (subst (λ l. Advances seen l shared result after new) (sym at) goes)

  -- what is left was taken out of the worker before
  module _ (after : WorkerView) where
    onto : (left : Left) → seen.left ≡ left → Advances seen left shared result after new → Advances old old.left shared result after new
    onto left at goes = subst (λ (w : WorkerView). Advances w w.left shared result after new) is (subst (λ l. Advances seen l shared result after new) (sym at) goes)

    pub went_committing : (number : ℕ) → seen.left ≡ Decided number verdicts.Commit → (gone : Left) → gone ≡ Nothing → ConcludesAs (record seen { left = gone }) number verdicts.Commit shared result after new
        → Advances old old.left shared result after new
    went_committing number at gone none goes = onto (Decided number verdicts.Commit) at goes

    pub went_backing : (number : ℕ) (cause : Cause) → seen.left ≡ Decided number (verdicts.BackUp cause) → (gone : Left) → gone ≡ Nothing
        → ConcludesAs (record seen { left = gone }) number (verdicts.BackUp cause) shared result after new → Advances old old.left shared result after new
    went_backing number cause at gone none goes = onto (Decided number (verdicts.BackUp cause)) at goes

-- ---- from the locked state to the history

module _ (named : Named) (me now : FrontView) (old new : Locked) (ran : Run (opened_as named) old.story.log (world_of old)) where
  takes_once : (session : ℕ) (item : Item) (reply : Reply) → Takes me session item old reply now new → ComesIn named session item me reply now
  takes_once session item reply (inl takes) = inl (tells_stands named me now old new (SerialEnd session item) reply ran takes.1.2)
  takes_once session item reply (inr enters) = inr (tells_stands named me now old new (Enter session item) reply ran enters.2)

  commits_once : (session : ℕ) (result : Result (Option End) Fault) → Commits me session old result now new
      → (((reply : Reply) × StandsIn named me (WriteOne session) reply now × IsWritten reply result) ⊎ ((reply : Reply) × StandsIn named me (Finish session) reply now × IsFinished reply result))
  commits_once session result (inl writes) = inl (writes.0, tells_stands named me now old new (WriteOne session) writes.0 ran writes.1.2, writes.2)
  commits_once session result (inr finishes) = inr (finishes.0, tells_stands named me now old new (Finish session) finishes.0 ran finishes.1.2, finishes.2)

-- one event
pub happens_to : (named : Named) (old new : Locked) → Run (opened_as named) old.story.log (world_of old)
    → (worker after : WorkerView) (left : Left) (result : Result (Option End) Fault) → Advances worker left old result after new → HappensTo named worker left result after
happens_to named old new ran worker after Nothing result advances = advances
happens_to named old new ran worker after (Kept item) result advances =
    (advances.0, takes_once named worker.front after.front old new ran worker.session item advances.0 advances.1, advances.2, advances.3)
happens_to named old new ran worker after (Open number token) result advances =
    (advances.0, tells_stands named worker.front after.front old new (Decide worker.session) (replied events.Decided advances.0) ran advances.1.2, advances.2, advances.3)
happens_to named old new ran worker after (Decided number verdicts.Commit) result advances =
    (commits_once named worker.front after.front old new ran worker.session result advances.0, advances.1)
happens_to named old new ran worker after (Decided number (verdicts.BackUp cause)) result advances =
    (advances.0, tells_stands named worker.front after.front old new (BackUp worker.session) advances.0 ran advances.1.2, advances.2, advances.3)

-- ---- events that were refused before

module _ (named : Named) where
  pub none_refused : (front : FrontView) → Refusals named front front
  none_refused front = ([], tt, refl)

  pub stands_now : (from to : FrontView) (event : Event) (reply : Reply) → StandsIn named from event reply to → StandsAfter named from event reply to
  stands_now from to event reply stands = (from, none_refused from, stands)

  module _ (from at to : FrontView) (event : Event) (fault : Fault) (stands : StandsIn named from event (Refused fault) at) where
    refused_more : Refusals named at to → Refusals named from to
    refused_more others = ((event, Refused fault) ∷ others.0, (tt, others.1), (at, stands, others.2))

  module _ (from at : FrontView) (event : Event) (reply : Reply) (stands : StandsIn named from event reply at) (session : ℕ) (is : (event ≡ WriteOne session) ⊎ IsRefused reply) where
    writes_more : (to : FrontView) → Writes named session at to → Writes named session from to
    writes_more to others = ((event, reply) ∷ others.0, (is, others.1), (at, stands, others.2))

    commits_more : (to : FrontView) (ended : End) → Concludes named session verdicts.Commit ended at to → Concludes named session verdicts.Commit ended from to
    commits_more to (ends.Committed tn none) so = (so.0, writes_more so.0 so.1, so.2)
    commits_more to (ends.BackedUp cause) so = absurd so

  module _ (from at : FrontView) (event : Event) (fault : Fault) (stands : StandsIn named from event (Refused fault) at) (session : ℕ) where
    after_more : (to : FrontView) (other : Event) (reply : Reply) → StandsAfter named at other reply to → StandsAfter named from other reply to
    after_more to other reply so = (so.0, refused_more from at so.0 event fault stands so.1, so.2)

    concludes_more : (to : FrontView) (verdict : Verdict) (ended : End) → Concludes named session verdict ended at to → Concludes named session verdict ended from to
    concludes_more to verdicts.Commit ended so = commits_more from at event (Refused fault) stands session (inr tt) to ended so
    concludes_more to (verdicts.BackUp kept) (ends.Committed tn none) so = absurd so
    concludes_more to (verdicts.BackUp kept) (ends.BackedUp cause) so = (so.0, (so.1.0, after_more to (BackUp session) (BackedUp so.1.0) so.1.1))

    decided_more : (to : FrontView) (ended : End) → DecidedSo named session ended at to → DecidedSo named session ended from to
    decided_more to ended so = (so.0, so.1, after_more so.1 (Decide session) (events.Decided so.0) so.2, so.3)

    over_more : (to : FrontView) (item : Item) (ended : End) → Over named session item ended at to → Over named session item ended from to
    over_more to item ended (inl so) = inl (so.0, so.1, refused_more from at so.1 event fault stands so.2, so.3, so.4)
    over_more to item ended (inr so) = inr (so.0, so.1, so.2, after_more so.2 (Enter session item) (Entered so.0 so.1) so.3, so.4)

    pub left_over_more : (to : FrontView) (left : Left) (ended : End) → LeftIsOver named session left ended at to → LeftIsOver named session left ended from to
    left_over_more to Nothing ended so = so
    left_over_more to (Kept item) ended so = over_more to item ended so
    left_over_more to (Open number token) ended so = decided_more to ended so
    left_over_more to (Decided number verdict) ended so = concludes_more to verdict ended so

-- what is left of an item is left of it later
pub left_later : (named : Named) (session : ℕ) (item : Item) (left : Left) (from to later : FrontView) → GoesOnTo to later → LeftOf named session item left from to → LeftOf named session item left from later
left_later named session item Nothing from to later goes was = was
left_later named session item (Kept kept) from to later goes was = (was.0, on_trans from to later was.1 goes)
left_later named session item (Open number token) from to later goes was =
    (was.0, (was.1.0, was.1.1, stood_later named from to later (Enter session item) (Entered was.1.0 was.1.1) goes was.1.2))
left_later named session item (Decided number verdict) from to later goes was =
    (was.0, (was.1.0, was.1.1, stood_later named from to later (Enter session item) (Entered was.1.0 was.1.1) goes was.1.2), stood_later named from to later (Decide session) (events.Decided verdict) goes was.2)

-- what one has seen of whom something is left goes on from what was seen
left_on : (named : Named) (session : ℕ) (item : Item) (left : Left) (from to : FrontView) → LeftOf named session item left from to → GoesOnTo from to
left_on named session item Nothing from to was = absurd was
left_on named session item (Kept kept) from to was = was.1
left_on named session item (Open number token) from to was = stood_on named from to (Enter session item) (Entered was.1.0 was.1.1) was.1.2
left_on named session item (Decided number verdict) from to was = stood_on named from to (Enter session item) (Entered was.1.0 was.1.1) was.1.2

-- ---- the event by which a transaction is over

same_end : (a b : End) → ◌≡◌ {A = Result (Option End) Fault} (Ok (Some a)) (Ok (Some b)) → a ≡ b
same_end a b e = cc e

ends_at_once : (reply : Reply) (ended : End) → IsAnswered reply (Ok (Some ended)) → EndsAtOnce reply ended
ends_at_once (Refused fault) ended e = cc e
ends_at_once (Entered place index) ended e = cc e
ends_at_once (Finished tn) ended e = same_end ended (ends.Committed tn tt) e
ends_at_once (EndedBack cause) ended e = same_end ended (ends.BackedUp cause) e
ends_at_once (RanAlone tn answers) ended e = same_end ended (ends.Committed tn tt) e
ends_at_once reply ended e = absurd e

same_fault : (a b : Fault) → ◌≡◌ {A = Result (Option End) Fault} (Err b) (Err a) → a ≡ b
same_fault a b e = cc e

decides_no_end : {P : Type 0} (decided : Result Verdict Fault) (ended : End) → Ok (Some ended) ≡ answer_deciding decided → P
decides_no_end (Ok verdict) ended e = cc e
decides_no_end (Err fault) ended e = cc e

writes_no_end : {P : Type 0} (reply : Reply) (ended : End) → IsWritten reply (Ok (Some ended)) → P
writes_no_end (Refused fault) ended e = cc e
writes_no_end reply ended e = cc e

finishes : (named : Named) (session : ℕ) (from to : FrontView) (reply : Reply) (ended : End) → StandsIn named from (Finish session) reply to → IsFinished reply (Ok (Some ended)) → Concludes named session verdicts.Commit ended from to
finishes named session from to (Finished tn) ended steps e =
    subst (λ (it : End). Concludes named session verdicts.Commit it from to) (sym (same_end ended (ends.Committed tn tt) e)) (from, ([], tt, refl), steps)
finishes named session from to (Refused fault) ended steps e = cc e
finishes named session from to reply ended steps e = absurd e

backs : (named : Named) (session : ℕ) (from to : FrontView) (cause : Cause) (reply : Reply) (ended : End) → StandsIn named from (BackUp session) reply to → IsAnsweredBack cause reply (Ok (Some ended))
    → Concludes named session (verdicts.BackUp cause) ended from to
backs named session from to cause (BackedUp number) ended steps e =
    subst (λ (it : End). Concludes named session (verdicts.BackUp cause) it from to) (sym (same_end ended (ends.BackedUp cause) e)) (refl, (number, stands_now named from to (BackUp session) (BackedUp number) steps))
backs named session from to cause (Refused fault) ended steps e = cc e
backs named session from to cause reply ended steps e = absurd e

commits : (named : Named) (session : ℕ) (from to : FrontView) (ended : End)
    → (((reply : Reply) × StandsIn named from (WriteOne session) reply to × IsWritten reply (Ok (Some ended))) ⊎ ((reply : Reply) × StandsIn named from (Finish session) reply to × IsFinished reply (Ok (Some ended))))
    → Concludes named session verdicts.Commit ended from to
commits named session from to ended (inl writes) = writes_no_end writes.0 ended writes.2
commits named session from to ended (inr finished) = finishes named session from to finished.0 ended finished.1 finished.2

-- what was left is over so
pub over_now : (named : Named) (worker after : WorkerView) (left : Left) (ended : End) → HappensTo named worker left (Ok (Some ended)) after → LeftIsOver named worker.session left ended worker.front after.front
over_now named worker after Nothing ended happens = let e = happens.0 in cc e
over_now named worker after (Kept item) ended happens = inl (happens.0, worker.front, none_refused named worker.front, happens.1, ends_at_once happens.0 ended happens.2)
over_now named worker after (Open number token) ended happens = decides_no_end happens.0 ended happens.2
over_now named worker after (Decided number verdicts.Commit) ended happens = commits named worker.session worker.front after.front ended happens.0
over_now named worker after (Decided number (verdicts.BackUp cause)) ended happens = backs named worker.session worker.front after.front cause happens.0 ended happens.1 happens.2

-- with no more rows, none is more
none_more : (worker : WorkerView) (front : FrontView) → ◌≡◌ {A = WorkerView} (record worker { left = Nothing; front = front }) (record worker { left = Nothing; entered = worker.entered + 0; front = front })
none_more worker front = let none : worker.entered ≡ worker.entered + 0 = omega arith in ap (λ n. record worker { left = Nothing; entered = n; front = front }) none

taken_over : (worker after : WorkerView) (item : Item) (reply : Reply) (ended : End) → IsAnswered reply (Ok (Some ended))
    → after ≡ record worker { left = left_taking item reply; entered = worker.entered + rows_entered reply; front = after.front } → after ≡ record worker { left = Nothing; entered = worker.entered + 1; front = after.front }
taken_over worker after item (Refused fault) ended e becomes = cc e
taken_over worker after item (Entered place index) ended e becomes = cc e
taken_over worker after item (Finished tn) ended e becomes = becomes
taken_over worker after item (EndedBack cause) ended e becomes = becomes
taken_over worker after item (RanAlone tn answers) ended e becomes = becomes
taken_over worker after item reply ended e becomes = absurd e

-- and nothing is left
pub leaves_nothing : (named : Named) (worker after : WorkerView) (left : Left) (ended : End) → HappensTo named worker left (Ok (Some ended)) after
    → after ≡ record worker { left = Nothing; entered = worker.entered + unentered left; front = after.front }
leaves_nothing named worker after Nothing ended happens = let e = happens.0 in cc e
leaves_nothing named worker after (Kept item) ended happens = taken_over worker after item happens.0 ended happens.2 happens.3
leaves_nothing named worker after (Open number token) ended happens = decides_no_end happens.0 ended happens.2
leaves_nothing named worker after (Decided number verdicts.Commit) ended happens = happens.1 ∙ none_more worker after.front
leaves_nothing named worker after (Decided number (verdicts.BackUp cause)) ended happens = happens.3 ∙ none_more worker after.front

-- what the worker has seen goes on by an event
pub happens_on : (named : Named) (worker after : WorkerView) (left : Left) (result : Result (Option End) Fault) → HappensTo named worker left result after → GoesOnTo worker.front after.front
happens_on named worker after Nothing result happens = on_same worker.front after.front (ap (λ (w : WorkerView). w.front) happens.1)
happens_on named worker after (Kept item) result happens = ⊎_elim
    (λ stands. on_stands named worker.front after.front (SerialEnd worker.session item) happens.0 stands)
    (λ stands. on_stands named worker.front after.front (Enter worker.session item) happens.0 stands)
    happens.1
happens_on named worker after (Open number token) result happens = on_stands named worker.front after.front (Decide worker.session) (replied events.Decided happens.0) happens.1
happens_on named worker after (Decided number verdicts.Commit) result happens = ⊎_elim
    (λ wrote. on_stands named worker.front after.front (WriteOne worker.session) wrote.0 wrote.1)
    (λ finished. on_stands named worker.front after.front (Finish worker.session) finished.0 finished.1)
    happens.0
happens_on named worker after (Decided number (verdicts.BackUp cause)) result happens = on_stands named worker.front after.front (BackUp worker.session) happens.0 happens.1

-- ---- an event by which it is not

-- what is left comes to the same end, and what was left of an item still is
pub record Onward (named : Named) (old new : WorkerView) : Type 0 where
  pub goes : GoesOn named old new
  pub left : StaysLeft named old new

-- no item enters by its serial end
enters : Reply → Bool
enters (Entered place index) = true
enters reply = false

ends_serially : (old new : World) (session number start : ℕ) (writes : List Write) (v : Verdict) (reply : Reply) → EndsSerially old session number start writes v reply new → enters reply ≡ false
unfolding enters
ends_serially old new session number start writes verdicts.Commit reply so = ap enters so.0
ends_serially old new session number start writes (verdicts.BackUp cause) reply so = ap enters so.0

no_entry : (old new : World) (session : ℕ) (item : Item) (reply : Reply) → Step old (SerialEnd session item) reply new → enters reply ≡ false
unfolding enters
no_entry old new session item reply (refused fault r is same) = ap enters is
no_entry old new session item reply (starved r t is same) = ap enters is
no_entry old new session (Request number start writes) reply (taken r so) = ends_serially old new session number start writes (validity_of old session number start writes) reply so
no_entry old new session (Alone number operations) reply (taken r runs) = ap enters runs.0
no_entry old new session (Close number) reply (taken r closes) = ap enters closes.0

module _ (named : Named) (session : ℕ) (item : Item) (place index : ℕ) (from to : FrontView) where
  entry : ComesIn named session item from (Entered place index) to → StandsIn named from (Enter session item) (Entered place index) to
  unfolding enters
  entry (inl stands) = untrue (sym (no_entry stands.1 stands.2 session item (Entered place index) stands.6))
  entry (inr stands) = stands

  entry_of : StandsIn named from (Enter session item) (Entered place index) to → (other : Item) (before : FrontView) → item ≡ other → GoesOnTo before from → LeftOf named session other (Open (number_of item) None) before to
  entry_of stands other before is goes =
      subst (λ (o : Item). LeftOf named session o (Open (number_of item) None) before to) is
      (refl, (place, index, stood_sooner named before from to (Enter session item) (Entered place index) goes (stood named from to (Enter session item) (Entered place index) stands)))

module _ (named : Named) (worker after : WorkerView) (seen : GoesOnTo worker.front after.front) where
  onward : (left next : Left) (entered : ℕ) → worker.left ≡ left → after ≡ record worker { left = next; entered = entered; front = after.front } → number_left next ≡ Some worker.last
      → entered + unentered next ≡ worker.entered + unentered left
      → ((item : Item) (from : FrontView) → LeftOf named worker.session item left from worker.front → LeftOf named worker.session item next from after.front)
      → ((ended : End) (to : FrontView) → LeftIsOver named worker.session next ended after.front to → LeftIsOver named worker.session left ended worker.front to) → Onward named worker after
  onward left next entered is becomes n counts of over = go after.front becomes seen of over
    where
      go : (front : FrontView) → after ≡ record worker { left = next; entered = entered; front = front } → GoesOnTo worker.front front
          → ((item : Item) (from : FrontView) → LeftOf named worker.session item left from worker.front → LeftOf named worker.session item next from front)
          → ((ended : End) (to : FrontView) → LeftIsOver named worker.session next ended front to → LeftIsOver named worker.session left ended worker.front to) → Onward named worker after
      go front becomes seen of over = subst (Onward named worker) (sym becomes) (record {
        goes = record {
          kept = n;
          same = refl;
          counted = counts ∙ ap (λ l. worker.entered + unentered l) (sym is);
          seen = seen;
          over = λ ended to so. subst (λ l. LeftIsOver named worker.session l ended worker.front to) (sym is) (over ended to so);
        };
        left = λ item from was. of item from (subst (λ l. LeftOf named worker.session item l from worker.front) is was);
      })

  -- an event was refused, and what is left is the same
  as_before : (left : Left) (event : Event) (fault : Fault) → worker.left ≡ left → StandsIn named worker.front event (Refused fault) after.front
      → after ≡ record worker { left = left; entered = worker.entered; front = after.front } → number_left left ≡ Some worker.last → Onward named worker after
  as_before left event fault is stands becomes n = onward left left worker.entered is becomes n refl
      (λ item from was. left_later named worker.session item left from worker.front after.front seen was)
      (λ ended to over. left_over_more named worker.front after.front event fault stands worker.session to left ended over)

  taken_still : (item : Item) (reply : Reply) (fault : Fault) → worker.left ≡ Kept item → ComesIn named worker.session item worker.front reply after.front → IsAnswered reply (Err fault)
      → after ≡ record worker { left = left_taking item reply; entered = worker.entered + rows_entered reply; front = after.front } → Some (number_of item) ≡ Some worker.last → Onward named worker after
  taken_still item (Refused fault) met is comes e becomes n =
      let count : worker.entered + 0 ≡ worker.entered = omega arith in
      let same : after ≡ record worker { left = Kept item; entered = worker.entered; front = after.front } = becomes ∙ (λ i. record worker { left = Kept item; entered = count i; front = after.front }) in
      ⊎_elim
      (λ stands. as_before (Kept item) (SerialEnd worker.session item) fault is stands same n)
      (λ stands. as_before (Kept item) (Enter worker.session item) fault is stands same n)
      comes
  taken_still item (Entered place index) met is comes e becomes n = cc e
  taken_still item (Finished tn) met is comes e becomes n = cc e
  taken_still item (EndedBack cause) met is comes e becomes n = cc e
  taken_still item (RanAlone tn answers) met is comes e becomes n = cc e
  taken_still item reply met is comes e becomes n = absurd e

  taken_on : (item : Item) (reply : Reply) → worker.left ≡ Kept item → ComesIn named worker.session item worker.front reply after.front
      → IsAnswered reply (Ok None) → after ≡ record worker { left = left_taking item reply; entered = worker.entered + rows_entered reply; front = after.front } → Some (number_of item) ≡ Some worker.last
      → Onward named worker after
  taken_on item (Refused fault) is comes e becomes n = cc e
  taken_on item (Entered place index) is comes e becomes n =
      let stands = entry named worker.session item place index worker.front after.front comes in
      let count : worker.entered + 1 + 0 ≡ worker.entered + 1 = omega arith in
      onward (Kept item) (Open (number_of item) None) (worker.entered + 1) is becomes n count
      (λ other from was. entry_of named worker.session item place index worker.front after.front stands other from was.0 was.1)
      (λ ended to over. inr (place, index, after.front, stands_now named worker.front after.front (Enter worker.session item) (Entered place index) stands, over))
  taken_on item (Finished tn) is comes e becomes n = cc e
  taken_on item (EndedBack cause) is comes e becomes n = cc e
  taken_on item (RanAlone tn answers) is comes e becomes n = cc e
  taken_on item reply is comes e becomes n = absurd e

  decided_still : (number : ℕ) (token : Option (Where Case)) (decided : Result Verdict Fault) (fault : Fault) → worker.left ≡ Open number token → Err fault ≡ answer_deciding decided
      → StandsIn named worker.front (Decide worker.session) (replied events.Decided decided) after.front
      → after ≡ record worker { left = left_deciding number decided; front = after.front } → Some number ≡ Some worker.last → Onward named worker after
  decided_still number token (Ok verdict) met is e stands becomes n = cc e
  decided_still number token (Err fault) met is e stands becomes n = onward (Open number token) (Open number None) worker.entered is becomes n refl
      (λ item from was. left_later named worker.session item (Open number token) from worker.front after.front seen was)
      (λ ended to over. left_over_more named worker.front after.front (Decide worker.session) fault stands worker.session to (Open number token) ended over)

  decided_on : (number : ℕ) (token : Option (Where Case)) (decided : Result Verdict Fault) → worker.left ≡ Open number token → StandsIn named worker.front (Decide worker.session) (replied events.Decided decided) after.front
      → Ok None ≡ answer_deciding decided → after ≡ record worker { left = left_deciding number decided; front = after.front } → Some number ≡ Some worker.last → Onward named worker after
  decided_on number token (Ok verdict) is stands e becomes n =
      onward (Open number token) (Decided number verdict) worker.entered is becomes n refl
      (λ item from was.
      let later = left_later named worker.session item (Open number token) from worker.front after.front seen was in (
        later.0,
        later.1,
        stood_sooner named from worker.front after.front (Decide worker.session) (events.Decided verdict) (left_on named worker.session item (Open number token) from worker.front was)
            (stood named worker.front after.front (Decide worker.session) (events.Decided verdict) stands),
      ))
      (λ ended to over. (verdict, after.front, stands_now named worker.front after.front (Decide worker.session) (events.Decided verdict) stands, over))
  decided_on number token (Err fault) is stands e becomes n = cc e

  -- a single write that was done
  wrote_on : (number : ℕ) (reply : Reply) → worker.left ≡ Decided number verdicts.Commit → StandsIn named worker.front (WriteOne worker.session) reply after.front
      → after ≡ record worker { left = Decided number verdicts.Commit; front = after.front } → Some number ≡ Some worker.last → Onward named worker after
  wrote_on number reply is stands becomes n = onward (Decided number verdicts.Commit) (Decided number verdicts.Commit) worker.entered is becomes n refl
      (λ item from was. left_later named worker.session item (Decided number verdicts.Commit) from worker.front after.front seen was)
      (λ ended to over. commits_more named worker.front after.front (WriteOne worker.session) reply stands worker.session (inl refl) to ended over)

  -- a refusal of one, or of a finish
  write_refused : (number : ℕ) (event : Event) (reply : Reply) (fault : Fault) → worker.left ≡ Decided number verdicts.Commit → reply ≡ Refused fault → StandsIn named worker.front event reply after.front
      → after ≡ record worker { left = Decided number verdicts.Commit; front = after.front } → Some number ≡ Some worker.last → Onward named worker after
  write_refused number event reply fault is told stands becomes n =
      as_before (Decided number verdicts.Commit) event fault is (subst (λ r. StandsIn named worker.front event r after.front) told stands) becomes n

-- by which reply an event is refused
written_refused : (reply : Reply) (fault : Fault) → IsWritten reply (Err fault) → reply ≡ Refused fault
written_refused (Refused other) fault e = ap Refused (same_fault other fault e)
written_refused reply fault e = cc e

finish_refused : (reply : Reply) (fault : Fault) → IsFinished reply (Err fault) → reply ≡ Refused fault
finish_refused (Refused other) fault e = ap Refused (same_fault other fault e)
finish_refused (Finished tn) fault e = cc e
finish_refused reply fault e = absurd e

back_refused : (cause : Cause) (reply : Reply) (fault : Fault) → IsAnsweredBack cause reply (Err fault) → reply ≡ Refused fault
back_refused cause (Refused other) fault e = ap Refused (same_fault other fault e)
back_refused cause (BackedUp number) fault e = cc e
back_refused cause reply fault e = absurd e

finish_not_on : {P : Type 0} (reply : Reply) → IsFinished reply (Ok None) → P
finish_not_on (Refused fault) e = cc e
finish_not_on (Finished tn) e = cc e
finish_not_on reply e = absurd e

back_not_on : {P : Type 0} (cause : Cause) (reply : Reply) → IsAnsweredBack cause reply (Ok None) → P
back_not_on cause (Refused fault) e = cc e
back_not_on cause (BackedUp number) e = cc e
back_not_on cause reply e = absurd e

module _ (named : Named) (worker after : WorkerView) where
  refuses : (left : Left) (fault : Fault) → worker.left ≡ left → HappensTo named worker left (Err fault) after → number_left left ≡ Some worker.last → Onward named worker after
  refuses Nothing fault is happens n = cc n
  refuses (Kept item) fault is happens n =
      taken_still named worker after (happens_on named worker after (Kept item) (Err fault) happens) item happens.0 fault is happens.1 happens.2 happens.3 n
  refuses (Open number token) fault is happens n =
      decided_still named worker after (happens_on named worker after (Open number token) (Err fault) happens) number token happens.0 fault is happens.2 happens.1 happens.3 n
  refuses (Decided number verdicts.Commit) fault is happens n =
      let seen = happens_on named worker after (Decided number verdicts.Commit) (Err fault) happens in
      ⊎_elim
      (λ wrote. write_refused named worker after seen number (WriteOne worker.session) wrote.0 fault is (written_refused wrote.0 fault wrote.2) wrote.1 happens.1 n)
      (λ finished. write_refused named worker after seen number (Finish worker.session) finished.0 fault is (finish_refused finished.0 fault finished.2) finished.1 happens.1 n)
      happens.0
  refuses (Decided number (verdicts.BackUp cause)) fault is happens n =
      as_before named worker after (happens_on named worker after (Decided number (verdicts.BackUp cause)) (Err fault) happens) (Decided number (verdicts.BackUp cause)) (BackUp worker.session) fault is
      (subst (λ r. StandsIn named worker.front (BackUp worker.session) r after.front) (back_refused cause happens.0 fault happens.2) happens.1) happens.3 n

  goes : (left : Left) → worker.left ≡ left → HappensTo named worker left (Ok None) after → number_left left ≡ Some worker.last → Onward named worker after
  goes Nothing is happens n = cc n
  goes (Kept item) is happens n = taken_on named worker after (happens_on named worker after (Kept item) (Ok None) happens) item happens.0 is happens.1 happens.2 happens.3 n
  goes (Open number token) is happens n = decided_on named worker after (happens_on named worker after (Open number token) (Ok None) happens) number token happens.0 is happens.1 happens.2 happens.3 n
  goes (Decided number verdicts.Commit) is happens n = ⊎_elim
      (λ wrote. wrote_on named worker after (happens_on named worker after (Decided number verdicts.Commit) (Ok None) happens) number wrote.0 is wrote.1 happens.1 n)
      (λ finished. finish_not_on finished.0 finished.2)
      happens.0
  goes (Decided number (verdicts.BackUp cause)) is happens n = back_not_on cause happens.0 happens.2

  -- an event that is refused
  pub is_refused : (fault : Fault) → HappensTo named worker worker.left (Err fault) after → IsKept worker → Onward named worker after
  is_refused fault happens kept = refuses worker.left fault refl happens kept

  -- an event after which there is more to be done
  pub goes_on : HappensTo named worker worker.left (Ok None) after → IsKept worker → Onward named worker after
  goes_on happens kept = goes worker.left refl happens kept

-- ---- some events

-- none yet
pub none_yet : (named : Named) (worker : WorkerView) → IsKept worker → Onward named worker worker
none_yet named worker kept = record {
  goes = record { kept = kept; same = refl; counted = refl; seen = on_self worker.front; over = λ ended to over. over };
  left = λ item from was. was;
}

module _ (named : Named) (a b c : WorkerView) (first : GoesOn named a b) where
  -- and more
  pub goes_more : GoesOn named b c → GoesOn named a c
  goes_more second = record {
    kept = second.kept;
    same = second.same ∙ ap (λ (w : WorkerView). record w { left = c.left; entered = c.entered; front = c.front }) first.same;
    counted = second.counted ∙ first.counted;
    seen = on_trans a.front b.front c.front first.seen second.seen;
    over = λ ended to over. first.over ended to (second.over ended to over);
  }

  pub left_more : StaysLeft named a b → StaysLeft named b c → StaysLeft named a c
  left_more before then_so = λ item from was.
      let session : b.session ≡ a.session = ap (λ (w : WorkerView). w.session) first.same in
      subst (λ (s : ℕ). LeftOf named s item c.left from c.front) session (then_so item from (subst (λ (s : ℕ). LeftOf named s item b.left from b.front) (sym session) (before item from was)))

  pub nothing_then : c ≡ record b { left = Nothing; entered = b.entered + unentered b.left; front = c.front } → c ≡ record a { left = Nothing; entered = a.entered + unentered a.left; front = c.front }
  nothing_then is = is ∙ (λ i. record (first.same i) { left = Nothing; entered = first.counted i; front = c.front })

  -- and one event by which it is over
  module _ (told : Option End) (ended : End) (is : told ≡ Some ended) (happens : HappensTo named b b.left (Ok told) c) where
    last_so : HappensTo named b b.left (Ok (Some ended)) c
    last_so = subst (λ (t : Option End). HappensTo named b b.left (Ok t) c) is happens

    pub is_over : LeftIsOver named a.session a.left ended a.front c.front
    is_over = first.over ended c.front (over_now named b c b.left ended last_so)

    pub is_nothing : c ≡ record a { left = Nothing; entered = a.entered + unentered a.left; front = c.front }
    is_nothing = nothing_then (leaves_nothing named b c b.left ended last_so)

    pub is_on : GoesOnTo a.front c.front
    is_on = on_trans a.front b.front c.front first.seen (happens_on named b c b.left (Ok told) happens)

pub more : (named : Named) (a b c : WorkerView) → Onward named a b → Onward named b c → Onward named a c
more named a b c first second =
    record { goes = goes_more named a b c first.goes second.goes; left = left_more named a b c first.goes first.left second.left }

pub one_more : (named : Named) (a b c : WorkerView) → Onward named a b → (told : Option End) → told ≡ None → HappensTo named b b.left (Ok told) c → Onward named a c
one_more named a b c first told is happens =
    more named a b c first (goes_on named b c (subst (λ (t : Option End). HappensTo named b b.left (Ok t) c) is happens) first.goes.kept)

pub one_refused : (named : Named) (a b c : WorkerView) → Onward named a b → (fault : Fault) → HappensTo named b b.left (Err fault) c → Onward named a c
one_refused named a b c first fault happens = more named a b c first (is_refused named b c fault happens first.goes.kept)

-- with how many rows it entered as it is
pub with_nothing : (a c : WorkerView) (entered : ℕ) → c ≡ record a { left = Nothing; entered = entered; front = c.front } → c ≡ record a { left = Nothing; entered = c.entered; front = c.front }
with_nothing a c entered is = is ∙ (λ i. record a { left = Nothing; entered = ap (λ (w : WorkerView). w.entered) (sym is) i; front = c.front })

-- what an error leaves, under its number
pub still_kept : (named : Named) (old new : WorkerView) → GoesOn named old new → IsKept new × (new ≡ record old { left = new.left; entered = new.entered; front = new.front })
still_kept named old new goes = (goes.kept, goes.same)

pub on_any_err : {X Y P : Type 0} (result : Result X Y) → P → OnErr result P
on_any_err (Ok x) p = tt
on_any_err (Err y) p = p

-- nothing is left where no number is
pub none_left : (left : Left) → is_some (number_left left) ≡ false → left ≡ Nothing
none_left Nothing e = refl
none_left (Kept item) e = untrue (sym e)
none_left (Open number token) e = untrue (sym e)
none_left (Decided number verdict) e = untrue (sym e)

-- ---- an item that is handed in

module _ (named : Named) (old after : WorkerView) (item : Item) (nothing : old.left ≡ Nothing) (next : number_of item ≡ old.last + 1) where
  pub handed : (entered : ℕ) → after ≡ record (holding old item) { left = Nothing; entered = entered; front = after.front } → after ≡ record old { last = old.last + 1; entered = entered; front = after.front }
  handed entered is = is ∙ (λ i. record old { last = next i; left = sym nothing i; entered = entered; front = after.front })

  -- it is over at once
  module _ (told : Option End) (happens : HappensTo named (holding old item) (Kept item) (Ok told) after) where
    handed_so : (so : Option End) → told ≡ so → HappensTo named (holding old item) (Kept item) (Ok so) after
    handed_so so is = subst (λ (t : Option End). HappensTo named (holding old item) (Kept item) (Ok t) after) is happens

    pub over_at_once : (ended : End) → told ≡ Some ended → Over named old.session item ended old.front after.front
    over_at_once ended is = over_now named (holding old item) after (Kept item) ended (handed_so (Some ended) is)

    pub ended_at_once : (ended : End) → told ≡ Some ended → after ≡ record old { last = old.last + 1; entered = old.entered + 1; front = after.front }
    ended_at_once ended is = handed (old.entered + 1) (leaves_nothing named (holding old item) after (Kept item) ended (handed_so (Some ended) is))

    -- or it entered
    pub entered_in : told ≡ None → Onward named (holding old item) after
    entered_in is = goes_on named (holding old item) after (handed_so None is) refl

  -- or not yet
  pub still_in : GoesOn named (holding old item) after → IsKept after × (after ≡ record old { last = old.last + 1; entered = after.entered; left = after.left; front = after.front })
  still_in goes = (goes.kept, goes.same ∙ (λ i. record old { last = next i; left = after.left; entered = after.entered; front = after.front }))

-- what is kept after an event of the worker's transaction
pub kept_so : (seen old after : WorkerView) (session : ℕ) (front : FrontView) (left : Left) → seen ≡ old → session ≡ seen.session → after ≡ record seen { session = session; front = front; left = left }
    → after ≡ record old { left = left; front = after.front }
kept_so seen old after session front left is same becomes =
    becomes
    ∙ (λ i. record seen { session = same i; front = front; left = left })
    ∙ (λ i. record (is i) { front = front; left = left })
    ∙ (λ i. record old { left = left; front = ap (λ (w : WorkerView). w.front) (sym becomes) i })
