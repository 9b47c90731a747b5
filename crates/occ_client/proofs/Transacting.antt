-- What the tries of a whole transaction come to.
use denote.Ref.{MutBor}
use denote.Param.Members.{Called, Mut}
use Rattle.std.proofs.Common.{◌≡◌, inl, inr, ◌⊎◌, ℕ, zero, suc, ◌+◌, ◌<◌, Bool, true, false, not, Option, None, Some, Result, Ok, Err, OnErr, OnOk, IfOk, refl, sym, ap, subst, ◌∙◌, arith, MatchOption}
use Rattle.occ_types.specs.declared.fault.Fault.{Fault}
use Rattle.occ_types.specs.declared.fault.Fault.TheVariants as faults
use Rattle.occ_types.specs.Schema.{fault_if}
use Rattle.occ_model.specs.World.{World, has_session}
use Rattle.occ_model.specs.Event.{Forget, Checkpoint, Folded, Reply, Refused}
use Rattle.occ_model.specs.Step.{Step, refused, starved, taken}
use Rattle.occ_model.specs.declared.verdict.Cause.{Cause}
use Rattle.occ_sets.specs.Sets.{Copied}
use Rattle.std.specs.Option.{is_some}
use Rattle.occ_model.specs.Replies.{replied}
use Rattle.occ_core.specs.AutoCheckpoints.{is_due, checked_point}
use Rattle.occ_core.specs.Core.{Seen}
use Rattle.occ_open.specs.Transactions.{Abandons, open_after}
use Rattle.occ_client.specs.Clients.{Client, Commits, StaysOrStops, IsLastEnd, end_reply}
use Rattle.occ_client.specs.declared.ending.End.TheVariants as ends
use Rattle.occ_case.specs.declared.ended.Ended.{Ended}
use Rattle.occ_case.specs.declared.ended.Ended.TheVariants as tried
use Rattle.occ_client.specs.Transacts.{Moment, end_of, Begins, CalledAtBoth, GivesUp, NoneOpen, EndsSo, EndFails, Prepares, Runs, IsTried, TriesOnce, BackedUpEach, AreAll, Tries, Transacts}
use Rattle.occ_client.proofs.Committing.{last_end, none_after}

-- a call of a body
pub called : {F A B R : Type 0} (g : Mut F (MutBor A × (MutBor B × Unit {0})) (R × (MutBor A × (MutBor B × Unit {0})))) (f : F) (first : MutBor A) (second : MutBor B) (r : R) (left : MutBor A × (MutBor B × Unit {0})) (f' : F)
    → Called g f (first, (second, tt)) (r, left) f' → CalledAtBoth g f first.now second.now r f' left.0.now left.1.0.now
called g f first second r left f' call = record { first = first; second = second; shows = (refl, refl); left = left; called = call; leaves = (refl, refl) }

-- a checkpoint where one is due
pub prepares : (before after : Moment) (folded : Option (Result ℕ Fault)) → is_some folded ≡ is_due before.client.checkpoints
    → MatchOption folded (after.store ≡ before.store) (λ folded. Step before.store.world Checkpoint (replied Folded folded) after.store.world)
    → after.client ≡ record before.client { checkpoints = checked_point folded before.client.checkpoints } → Prepares before after
prepares before after folded due step left = record { folded = folded; due = due; step = step; left = left }

-- an end that is refused
pub end_fails : (before stopped after : Moment) (fault given : Fault) → Commits before.client before.store.world stopped.client.writing (Refused fault) stopped.store.world
    → StaysOrStops before.client stopped.client → GivesUp stopped after → given ≡ fault → EndFails given before after
end_fails before stopped after fault given ends stays gives is = subst (λ (f : Fault). EndFails f before after) (sym is) (record { refused = stopped; ends = ends; stays = stays; gives_up = gives })

-- ---- what is given up

-- the store forgets what the session's transaction read, unless it has no such session
forgotten : (old : World) (session number : ℕ) (reply : Reply) (new : World) → Step old (Forget session number) reply new
    → ((current : Option Copied) → open_after current reply ≡ None) ⊎ (has_session new session ≡ false)
forgotten old session number reply new (refused fault is told same) = inr (ap (λ w. has_session w session) same ∙ unknown (has_session old session) is)
  where
    unknown : (known : Bool) → fault_if (not known) faults.NoSession ≡ Some fault → known ≡ false
    unknown true e = cc
    unknown false e = refl
forgotten old session number reply new (starved none takes told same) = cc
forgotten old session number reply new (taken none t) = inl (λ current. ap (open_after current) t.0)

-- none is open behind it
pub given_up : (before after : Moment) → GivesUp before after → NoneOpen after
given_up before after gives = go before.client.current refl gives.step
  where
    same_session : after.client.session ≡ before.client.session
    same_session = ap (λ (c : Client). c.session) gives.left

    left : after.client.current ≡ open_after before.client.current gives.reply
    left = ap (λ (c : Client). c.current) gives.left

    go : (current : Option Copied) → before.client.current ≡ current → Abandons before.store.world before.client.session current gives.reply after.store.world → NoneOpen after
    go None is step = inl (left ∙ ap (λ o. open_after o gives.reply) is ∙ ap (open_after None) step.0)
    go (Some copy) is step = by (forgotten before.store.world before.client.session copy.number gives.reply after.store.world step)
      where
        by : ((current : Option Copied) → open_after current gives.reply ≡ None) ⊎ (has_session after.store.world before.client.session ≡ false) → NoneOpen after
        by (inl none) = inl (left ∙ none before.client.current)
        by (inr unknown) = inr (ap (has_session after.store.world) same_session ∙ unknown)

-- ---- the last try

module _ {F T E : Type 0} (Calls : F → Client → Seen → Result T E → F → Client → Seen → Type 0) (Gives : Fault → E → Type 0) where
  -- so the last try ended
  once_ended : (f : F) (before : Moment) (ended : Ended T) (f' : F) (after : Moment) → TriesOnce Calls Gives f before (Ok ended) f' after
      → (left : Moment) × EndsSo (end_of ended) left after
  once_ended f before (tried.Committed tn value) f' after once = (once.left, once.ends)
  once_ended f before (tried.BackedUp cause) f' after once = (once.1.left, once.1.ends)

  pub last : (most : ℕ) (f : F) (before : Moment) (result : Result (Ended T) E) (after : Moment) → Transacts Calls Gives most f before result after
      → IfOk result (λ ended. IsLastEnd (end_reply (end_of ended)) after.store.world)
  last most f before (Ok ended) after whole =
      let so = once_ended whole.tries.between whole.tries.meanwhile ended whole.kept after whole.tries.last in
      last_end so.0.client so.0.store.world after.client.writing (end_reply (end_of ended)) after.store.world so.1.ends
  last most f before (Err error) after whole = tt

  pub none_open : (most : ℕ) (f : F) (before : Moment) (result : Result (Ended T) E) (after : Moment) → Transacts Calls Gives most f before result after
      → OnOk result (after.client.current ≡ None)
  none_open most f before (Ok ended) after whole =
      let so = once_ended whole.tries.between whole.tries.meanwhile ended whole.kept after whole.tries.last in
      none_after (end_of ended) so.0.client after.client so.1.left
  none_open most f before (Err error) after whole = tt

  -- none is open behind tries that were backed up
  none_between : (count : ℕ) (f : F) (before : Moment) (f' : F) (after : Moment) → before.client.current ≡ None
      → BackedUpEach Calls Gives count f before f' after → after.client.current ≡ None
  none_between zero f before f' after none each = ap (λ (m : Moment). m.client.current) each.1 ∙ none
  none_between (suc count) f before f' after none each =
      let so = once_ended each.0 each.1 (tried.BackedUp each.2) f' after each.4 in
      none_after (ends.BackedUp each.2) so.0.client after.client so.1.left

  -- nor behind one that fails
  none_failed : (f : F) (before : Moment) (error : E) (f' : F) (after : Moment) → before.client.current ≡ None → TriesOnce Calls Gives f before (Err error) f' after → NoneOpen after
  none_failed f before error f' after none (inl not_begun) = inl (ap (λ (m : Moment). m.client.current) not_begun.same.1 ∙ none)
  none_failed f before error f' after none (inr (inl body)) = given_up body.left after body.gives_up
  none_failed f before error f' after none (inr (inr end)) = given_up end.fails.refused after end.fails.gives_up

  pub none_left : (most : ℕ) (f : F) (before : Moment) (result : Result (Ended T) E) (after : Moment) → Transacts Calls Gives most f before result after
      → before.client.current ≡ None → OnErr result (NoneOpen after)
  none_left most f before (Ok ended) after whole none = tt
  none_left most f before (Err error) after whole none =
      let prepared = ap (λ (c : Client). c.current) whole.prepares.left ∙ none in
      let between = none_between whole.tries.earlier f whole.prepared whole.tries.between whole.tries.meanwhile prepared whole.tries.backed_up in
      none_failed whole.tries.between whole.tries.meanwhile error whole.kept after between whole.tries.last

  -- ---- one try

  -- a run of the body
  runs : (f : F) (before begun : Moment) (ran : Result T E) (f' : F) (left : Moment) → Begins before begun → Calls f begun.client begun.store ran f' left.client left.store
      → Runs Calls Gives f before ran f' left
  runs f before begun ran f' left begins calls = record { begun = begun; begins = begins; calls = calls }

  -- it is ended
  pub ended_so : (f : F) (before begun : Moment) (value : T) (f' : F) (left : Moment) (ended : Ended T) (after : Moment) → Begins before begun
      → Calls f begun.client begun.store (Ok value) f' left.client left.store → IsTried value left (Ok ended) after → TriesOnce Calls Gives f before (Ok ended) f' after
  ended_so f before begun value f' left (tried.Committed tn given) after begins calls so = record {
    left = left;
    runs = runs f before begun (Ok given) f' left begins (subst (λ (v : T). Calls f begun.client begun.store (Ok v) f' left.client left.store) (sym so.0) calls);
    ends = so.1;
  }
  ended_so f before begun value f' left (tried.BackedUp cause) after begins calls so =
      (value, record { left = left; runs = runs f before begun (Ok value) f' left begins calls; ends = so })

  -- its end is refused
  pub not_ended : (f : F) (before begun : Moment) (value : T) (f' : F) (left after : Moment) (fault : Fault) (error : E) → Begins before begun
      → Calls f begun.client begun.store (Ok value) f' left.client left.store → EndFails fault left after → Gives fault error → TriesOnce Calls Gives f before (Err error) f' after
  not_ended f before begun value f' left after fault error begins calls fails gives =
      inr (inr (record { left = left; value = value; fault = fault; runs = runs f before begun (Ok value) f' left begins calls; fails = fails; gives = gives }))

  -- the body gives up
  pub body_fails : (f : F) (before begun : Moment) (error given : E) (f' : F) (left after : Moment) → Begins before begun
      → Calls f begun.client begun.store (Err error) f' left.client left.store → GivesUp left after → given ≡ error → TriesOnce Calls Gives f before (Err given) f' after
  body_fails f before begun error given f' left after begins calls gives is =
      inr (inl (record { left = left; runs = runs f before begun (Err given) f' left begins (subst (λ (e : E). Calls f begun.client begun.store (Err e) f' left.client left.store) (sym is) calls); gives_up = gives }))

  -- ---- all tries

  -- the first one
  pub first : (f : F) (before : Moment) (ended : Ended T) (f' : F) (after : Moment) → TriesOnce Calls Gives f before (Ok ended) f' after → Tries Calls Gives 1 f before (Ok ended) f' after
  first f before ended f' after once = record { earlier = 0; few = omega arith; all = all ended; between = f; meanwhile = before; backed_up = (refl, refl); last = once }
    where
      all : (ended : Ended T) → AreAll {T = T} {E = E} (Ok ended) 1 1
      all (tried.Committed tn value) = tt
      all (tried.BackedUp cause) = refl

  -- one that committed is the last
  pub committed : (most done : ℕ) (f : F) (before : Moment) (ended : Ended T) (value : T) (tn : ℕ) (f' : F) (after : Moment) → ended ≡ tried.Committed tn value → done < most
      → Tries Calls Gives done f before (Ok ended) f' after → Tries Calls Gives most f before (Ok ended) f' after
  committed most done f before ended value tn f' after is below tries = record {
    earlier = tries.earlier;
    few = let few : tries.earlier < done = tries.few in omega arith;
    all = subst (λ e. AreAll {T = T} {E = E} (Ok e) (tries.earlier + 1) most) (sym is) tt;
    between = tries.between;
    meanwhile = tries.meanwhile;
    backed_up = tries.backed_up;
    last = tries.last;
  }

  -- all were made
  pub all_made : (most done : ℕ) (f : F) (before : Moment) (ended : Ended T) (f' : F) (after : Moment) → done ≡ most
      → Tries Calls Gives done f before (Ok ended) f' after → Tries Calls Gives most f before (Ok ended) f' after
  all_made most done f before ended f' after is tries = subst (λ n. Tries Calls Gives n f before (Ok ended) f' after) is tries

  -- one more after one that was backed up
  pub one_more : (count most : ℕ) (f : F) (before : Moment) (ended : Ended T) (cause : Cause) (between : F) (meanwhile : Moment) (result : Result (Ended T) E) (f' : F) (after : Moment)
      → ended ≡ tried.BackedUp cause → count < most → AreAll result (count + 1) most → Tries Calls Gives count f before (Ok ended) between meanwhile → TriesOnce Calls Gives between meanwhile result f' after
      → Tries Calls Gives most f before result f' after
  one_more count most f before ended cause between meanwhile result f' after is below all tries once =
      subst (λ e. Tries Calls Gives count f before (Ok e) between meanwhile → Tries Calls Gives most f before result f' after) (sym is) behind tries
    where
      behind : Tries Calls Gives count f before (Ok (tried.BackedUp cause)) between meanwhile → Tries Calls Gives most f before result f' after
      behind so = record {
        earlier = count;
        few = below;
        all = all;
        between = between;
        meanwhile = meanwhile;
        backed_up = subst (λ n. BackedUpEach Calls Gives n f before between meanwhile) many (so.between, so.meanwhile, cause, so.backed_up, so.last);
        last = once;
      }
        where
          many : suc so.earlier ≡ count
          many = let all : so.earlier + 1 ≡ count = so.all in omega arith

  -- and it is the last so far
  pub one_more_ended : (count : ℕ) (f : F) (before : Moment) (ended : Ended T) (cause : Cause) (between : F) (meanwhile : Moment) (next : Ended T) (f' : F) (after : Moment)
      → ended ≡ tried.BackedUp cause → Tries Calls Gives count f before (Ok ended) between meanwhile → TriesOnce Calls Gives between meanwhile (Ok next) f' after
      → Tries Calls Gives (count + 1) f before (Ok next) f' after
  one_more_ended count f before ended cause between meanwhile next f' after is tries once =
      one_more count (count + 1) f before ended cause between meanwhile (Ok next) f' after is (omega arith) (all next) tries once
    where
      all : (next : Ended T) → AreAll {T = T} {E = E} (Ok next) (count + 1) (count + 1)
      all (tried.Committed tn value) = tt
      all (tried.BackedUp cause) = refl

  -- after the checkpoint that was due
  pub transacts : (most done : ℕ) (f : F) (before prepared : Moment) (result : Result (Ended T) E) (kept : F) (after : Moment) → Prepares before prepared → done ≡ most
      → Tries Calls Gives done f prepared result kept after → Transacts Calls Gives most f before result after
  transacts most done f before prepared result kept after prepares is tries =
      record { prepared = prepared; prepares = prepares; kept = kept; tries = subst (λ n. Tries Calls Gives n f prepared result kept after) is tries }
