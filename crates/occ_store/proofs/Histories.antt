-- What stands in a history, and who may add to it.
use Rattle.std.proofs.Common.{◌≡◌, ◌⊎◌, ℕ, ◌==◌, ◌&&◌, not, ⊎_elim, inl, inr, true, false, List, [], ◌∷◌, ◌++◌, refl, sym, ap, subst, ◌∙◌}
use Rattle.std.proofs.lemmas.Bool.{eq-eqb}
use mathlib.Core.List.{IsPrefix}
use Rattle.occ_model.specs.World.{World}
use Rattle.occ_model.specs.Event.{Event, Reply}
use Rattle.occ_model.specs.Step.{Step, Run}
use Rattle.occ_history.specs.History.{Happened, Party, Absent, Nobody, Session, Client, Lane, FrontView, StoryView, session_of, is_of, is_clients, IsHere, IsWhole, MayAdd, adding}
use Rattle.occ_history.specs.Clauses.{Stands, StandInOrder}
use Rattle.occ_history.specs.Clauses as history
use Rattle.occ_history.proofs.Beginnings.{prefix_self, prefix_more, prefix_trans}
use Rattle.occ_history.proofs.Standing.{what_happens_stands}
use Rattle.occ_store.specs.Names.{Named, opened_as}
use Rattle.occ_store.specs.Locked.{Locked, world_of, lent_to, reader_of, IsVisitor, Tells}
use Rattle.occ_store.specs.Lanes.{IsDoer}
use Rattle.occ_store.specs.Transactions.{IsReader, MayRead}
use Rattle.occ_store.specs.Standing.{StandsIn, StandsInWhere, GoesOnTo, StoodBetween}

-- ---- parties

-- whose event it is has not been lent out
pub own_is_here : (party : Party) (event : Event) → is_of party event ≡ true → IsHere party
own_is_here Absent event own = absurd (cc own)
own_is_here Nobody event own = tt
own_is_here (Session session) event own = tt
own_is_here (Client session) event own = tt
own_is_here (Lane session) event own = tt

pub reader_is_here : (party : Party) (session : ℕ) → IsReader party session → IsHere party
reader_is_here party session = ⊎_elim (λ is. subst IsHere (sym is) tt) (λ is. subst IsHere (sym is) tt)

-- who reads for a session visits for it
pub reads_for : (party : Party) (session : ℕ) → IsReader party session → reader_of party ≡ session
reads_for party session = ⊎_elim (ap reader_of) (ap reader_of)

pub reader_visits : (party : Party) (session : ℕ) → IsReader party session → IsVisitor party session
reader_visits party session reader = (reader_is_here party session reader, sym (reads_for party session reader))

-- and who visits may read for the session that is kept
visits_own : (party : Party) → IsHere party → MayRead party (reader_of party)
visits_own Absent here = absurd here
visits_own Nobody here = inl refl
visits_own (Session session) here = inr (inl refl)
visits_own (Client session) here = inr (inr refl)
visits_own (Lane session) here = inl refl

pub visitor_may_read : (party : Party) (reading : ℕ) → IsVisitor party reading → MayRead party reading
visitor_may_read party reading visits = subst (MayRead party) (sym visits.1) (visits_own party visits.0)

pub doer_is_here : (party : Party) (session : ℕ) → IsDoer party session → IsHere party
doer_is_here party session = ⊎_elim (λ is. subst IsHere (sym is) tt) (λ is. subst IsHere (sym is) tt)

same_number : (n : ℕ) → (n == n) ≡ true
same_number n = eq-eqb n n refl

-- what a session reads, and what ends its transactions
pub may_read : (party : Party) (session : ℕ) (event : Event) (reply : Reply) → IsHere party → MayRead party session → is_clients event ≡ true → session_of event ≡ session → MayAdd (event, reply) party
may_read party session event reply here reader clients of = (
  here,
  ⊎_elim
      (λ none. inl (of ∙ none))
      (λ own. inr (⊎_elim
      (λ is. ap (λ (p : Party). is_of p event) is ∙ (λ i. of i == session) ∙ same_number session)
      (λ is. ap (λ (p : Party). is_of p event) is ∙ (λ i. clients i && (of i == session)) ∙ same_number session)
      own))
      reader,
)

pub may_do : (party : Party) (session : ℕ) (event : Event) (reply : Reply) → IsDoer party session → is_clients event ≡ false → session_of event ≡ session → MayAdd (event, reply) party
may_do party session event reply doer not_clients of = (
  doer_is_here party session doer,
  inr (⊎_elim
      (λ is. ap (λ (p : Party). is_of p event) is ∙ (λ i. of i == session) ∙ same_number session)
      (λ is. ap (λ (p : Party). is_of p event) is ∙ (λ i. not (not_clients i) && (of i == session)) ∙ same_number session)
      doer),
)

-- ---- what stands in the history

-- what happens behind the lock, to which the story led, stands in the history, and the story leads on
module _ (named : Named) (me now : FrontView) (old new : Locked) (event : Event) (reply : Reply)
    (ran : Run (opened_as named) old.story.log (world_of old)) (told : Tells me old event reply now new) where
  pub tells_stands : StandsIn named me event reply now
  tells_stands = (what_happens_stands (opened_as named) (lent_to me old) (lent_to now new) event reply ran told).1

  pub tells_runs : Run (opened_as named) new.story.log (world_of new)
  tells_runs = (what_happens_stands (opened_as named) (lent_to me old) (lent_to now new) event reply ran told).0

  pub tells_stands_where : (Is : World → Type 0) → Is (world_of old) → StandsInWhere named Is me event reply now
  tells_stands_where Is is =
      (old.story.log, world_of old, world_of new, is, told.before, told.whole, ran, told.step, told.seen)

-- who has seen an event of a call is the same party
pub stands_party : (named : Named) (me now : FrontView) (event : Event) (reply : Reply) → StandsIn named me event reply now → now.party ≡ me.party
stands_party named me now event reply stands = ap (λ (f : FrontView). f.party) stands.7

pub tells_party : (me now : FrontView) (old new : Locked) (event : Event) (reply : Reply) → Tells me old event reply now new → now.party ≡ me.party
tells_party me now old new event reply told = ap (λ (f : FrontView). f.party) told.seen

-- ---- going on

pub on_self : (front : FrontView) → GoesOnTo front front
on_self front = (refl, prefix_self front.seen)

pub on_same : (from to : FrontView) → to ≡ from → GoesOnTo from to
on_same from to same = subst (GoesOnTo from) (sym same) (on_self from)

pub on_trans : (one two three : FrontView) → GoesOnTo one two → GoesOnTo two three → GoesOnTo one three
on_trans one two three first second = (second.0 ∙ first.0, prefix_trans one.seen two.seen three.seen first.1 second.1)

pub on_stands : (named : Named) (me now : FrontView) (event : Event) (reply : Reply) → StandsIn named me event reply now → GoesOnTo me now
on_stands named me now event reply stands =
    let before = stands.0 in
    let seen : now.seen ≡ before ++ (event, reply) ∷ [] = ap (λ (f : FrontView). f.seen) stands.7 in
    (stands_party named me now event reply stands, subst (IsPrefix me.seen) (sym seen) (prefix_trans me.seen before (before ++ (event, reply) ∷ []) stands.3 (prefix_more before ((event, reply) ∷ []))))

-- an event stood between the two, and so it did between what was seen before and after them
pub stood : (named : Named) (me now : FrontView) (event : Event) (reply : Reply) → StandsIn named me event reply now → StoodBetween named me event reply now
stood named me now event reply stands = (me, now, on_self me, stands, on_self now)

pub stood_sooner : (named : Named) (sooner from to : FrontView) (event : Event) (reply : Reply) → GoesOnTo sooner from → StoodBetween named from event reply to → StoodBetween named sooner event reply to
stood_sooner named sooner from to event reply goes stood = (stood.0, stood.1, on_trans sooner from stood.0 goes stood.2, stood.3, stood.4)

pub stood_later : (named : Named) (from to later : FrontView) (event : Event) (reply : Reply) → GoesOnTo to later → StoodBetween named from event reply to → StoodBetween named from event reply later
stood_later named from to later event reply goes stood = (stood.0, stood.1, stood.2, stood.3, on_trans stood.1 to later stood.4 goes)

pub stood_on : (named : Named) (from to : FrontView) (event : Event) (reply : Reply) → StoodBetween named from event reply to → GoesOnTo from to
stood_on named from to event reply stood =
    on_trans from stood.0 to stood.2 (on_trans stood.0 stood.1 to (on_stands named stood.0 stood.1 event reply stood.3) stood.4)
