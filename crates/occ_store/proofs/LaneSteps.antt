-- What one event makes of a lane.
use Rattle.std.proofs.Common.{◌≡◌, ℕ, ◌+◌, ◌≤◌, Bool, true, false, [], ◌∷◌, ◌++◌, Option, None, Some, Result, Ok, inl, inr, IfSome, is_some, refl, sym, ap, subst, ◌∙◌, arith}
use Rattle.std.specs.Prelude.{if◌then◌else◌}
use mathlib.Core.List.{IsPrefix}
use Rattle.boxcar.specs.Table.{Shelves, Where, Shows}
use Rattle.occ_types.specs.declared.fault.Fault.{Fault}
use Rattle.occ_model.specs.Log.{Case}
use Rattle.occ_model.specs.Event.{Item, Event, Enter, Decide, WriteOne, Finish, SerialEnd, Reply}
use Rattle.occ_model.specs.Event as events
use Rattle.occ_model.specs.declared.verdict.Verdict.{Verdict}
use Rattle.occ_model.specs.declared.verdict.Verdict.TheVariants as verdicts
use Rattle.occ_model.specs.declared.verdict.Cause.{Cause}
use Rattle.occ_model.specs.Replies.{replied}
use Rattle.occ_core.specs.Replies.{outcome_of, next_object}
use Rattle.occ_core.specs.declared.outcomes.Outcome as code_outcome
use Rattle.occ_core.specs.declared.outcomes.Outcome.TheVariants as outcomes
use Rattle.occ_history.specs.History.{FrontView}
use Rattle.occ_history.proofs.Beginnings.{prefix_more, prefix_trans}
use Rattle.occ_store.specs.Standing.{GoesOnTo}
use Rattle.occ_store.specs.Locked.{Locked, world_of, rows_entered, Happens, Tells, EntersAs}
use Rattle.occ_store.specs.declared.serving.Point.{Point}
use Rattle.occ_store.specs.Lanes.{Left, Nothing, Kept, Decided, LaneView, GoesOn, Advances, token_left, open_rows, left_entering, ends_serially, next_of, Ends, TakesIn, DecidesAs, reached, point_of}
use Rattle.occ_store.proofs.Histories.{on_same}

module _ {Z : Type 0} where
  -- what came of an entry is told by its point
  pub reached_outcome : (outcome : code_outcome.Outcome Z) → reached (outcome_of outcome) ≡ Ok (point_of (outcome_of outcome))
  reached_outcome (outcomes.Entered place) = refl
  reached_outcome (outcomes.Committed tn) = refl
  reached_outcome (outcomes.BackedUp cause) = refl
  reached_outcome (outcomes.RanAlone tn answers) = refl
  reached_outcome outcomes.MarkedClosed = refl

  -- a row that is open is one that entered
  pub room_entering : (item : Item) (token : Option (Where Case)) (outcome : code_outcome.Outcome Z) (judged entered : ℕ) → judged ≤ entered
      → judged + open_rows (left_entering item token (outcome_of outcome)) ≤ entered + rows_entered (outcome_of outcome)
  room_entering item token (outcomes.Entered place) judged entered below = omega arith
  room_entering item token (outcomes.Committed tn) judged entered below = omega arith
  room_entering item token (outcomes.BackedUp cause) judged entered below = omega arith
  room_entering item token (outcomes.RanAlone tn answers) judged entered below = omega arith
  room_entering item token outcomes.MarkedClosed judged entered below = omega arith

  -- and what shows its case is of the file
  pub own_entering : (file : Shelves) (item : Item) (token : Option (Where Case)) (outcome : code_outcome.Outcome Z) → IfSome token (Shows file)
      → IfSome (token_left (left_entering item token (outcome_of outcome))) (Shows file)
  own_entering file item token (outcomes.Entered place) own = own
  own_entering file item token (outcomes.Committed tn) own = tt
  own_entering file item token (outcomes.BackedUp cause) own = tt
  own_entering file item token (outcomes.RanAlone tn answers) own = tt
  own_entering file item token outcomes.MarkedClosed own = tt

-- what was seen goes on by an event
pub tells_on : (me now : FrontView) (old new : Locked) (event : Event) (reply : Reply) → Tells me old event reply now new → GoesOnTo me now
tells_on me now old new event reply told =
    let seen : now.seen ≡ old.story.log ++ (event, reply) ∷ [] = ap (λ (f : FrontView). f.seen) told.seen in
    (ap (λ (f : FrontView). f.party) told.seen, subst (IsPrefix me.seen) (sym seen) (prefix_trans me.seen old.story.log (old.story.log ++ (event, reply) ∷ []) told.before (prefix_more old.story.log ((event, reply) ∷ []))))

-- and by a decision, or it stays where the verdict that is given is on another case
pub decides_on : (session : ℕ) (judged : Option (Where Case)) (old new : Locked) (result : Result Verdict Fault) (me now : FrontView) → DecidesAs me session judged old result now new → GoesOnTo me now
decides_on session None old new result me now happens = tells_on me now old new (Decide session) (replied events.Decided result) happens.2
decides_on session (Some judged) old new result me now (decides, words, inl told) = tells_on me now old new (Decide session) (replied events.Decided result) told
decides_on session (Some judged) old new result me now (decides, words, inr (wrong, same, story)) = on_same me now same

-- a lane that keeps what it had left, and has seen more
module _ (seen old : LaneView) (is : seen ≡ old) (front : FrontView) (left : Left) (after : LaneView) (keeps : after ≡ record seen { left = left; front = front }) where
  told_front : front ≡ after.front
  told_front = sym (ap (λ (l : LaneView). l.front) keeps)

  pub kept_lane : after ≡ record old { left = left; front = after.front }
  kept_lane = keeps ∙ (λ i. record (is i) { left = left; front = told_front i })

  pub kept_told : (Told : LaneView → FrontView → Type 0) → Told seen front → Told old after.front
  kept_told Told told = subst (λ (l : LaneView). Told l after.front) is (subst (Told seen) told_front told)

-- an item ends serially where it does, and enters where not
module _ (session : ℕ) (files serial : Bool) (item : Item) (old new : Locked) (reply : Reply) (me now : FrontView) where
  abbrev Either : Bool → Type 0
  Either b = elim b as (λ _. Type 0) [
    | true ↦ Happens me old session (SerialEnd session item) reply now new
    | false ↦ (token : Option (Where Case)) × (files ≡ false → token ≡ None) × EntersAs me old session item token reply now new
  ]

  pub ends_at_once : (ends : Bool) → ends ≡ ends_serially (world_of old) serial item → ends ≡ true → Happens me old session (SerialEnd session item) reply now new → TakesIn me session files serial item old reply now new
  ends_at_once ends is so happens = subst Either (sym so ∙ is) happens

  pub comes_in : (ends : Bool) → ends ≡ ends_serially (world_of old) serial item → ends ≡ false → (token : Option (Where Case)) → (files ≡ false → token ≡ None) → EntersAs me old session item token reply now new
      → TakesIn me session files serial item old reply now new
  comes_in ends is not token none enters = subst Either (sym not ∙ is) (token, none, enters)

  -- what was seen goes on by it
  pub takes_on : TakesIn me session files serial item old reply now new → GoesOnTo me now
  takes_on takes = go (ends_serially (world_of old) serial item) takes
    where
      go : (b : Bool) → Either b → GoesOnTo me now
      go true happens = tells_on me now old new (SerialEnd session item) reply happens.2
      go false (token, none, enters) = tells_on me now old new (Enter session item) reply enters.2

-- with its own case or not
pub files_it : (files : Bool) (token : Option (Where Case)) → files ≡ true → files ≡ false → token ≡ None
files_it files token so not = cc

-- what comes next of a row that is decided to commit
module _ (b : Bool) (number : ℕ) (lane : LaneView) (old : Locked) (result : Result Point Fault) (after : LaneView) (new : Locked) (is : b ≡ is_some (next_object (world_of old) lane.session)) where
  abbrev Next : Bool → Type 0
  Next x = Ends (if x then WriteOne lane.session else Finish lane.session) number lane old result after new

  pub goes_writing : b ≡ true → Ends (WriteOne lane.session) number lane old result after new → Ends (next_of (world_of old) lane.session) number lane old result after new
  goes_writing so ends = subst Next (sym so ∙ is) ends

  pub goes_finishing : b ≡ false → Ends (Finish lane.session) number lane old result after new → Ends (next_of (world_of old) lane.session) number lane old result after new
  goes_finishing not ends = subst Next (sym not ∙ is) ends

-- what a lane has left goes on, though it was taken out of the lane before
module _ (seen old : LaneView) (judged own : Option (Where Case)) (shared new : Locked) (result : Result Point Fault) (after : LaneView) (is : seen ≡ old) where
  onward : (left : Left) → seen.left ≡ left → GoesOn left seen judged shared result after new → Advances old judged shared result after new
  onward left at goes = subst (λ (l : LaneView). GoesOn l.left l judged shared result after new) is (subst (λ x. GoesOn x seen judged shared result after new) (sym at) goes)

  pub went_kept : (item : Item) → seen.left ≡ Kept item → (gone : Left) → gone ≡ Nothing → GoesOn (Kept item) (record seen { left = gone }) own shared result after new → Advances old judged shared result after new
  went_kept item at gone none goes = onward (Kept item) at goes

  pub went_committing : (number : ℕ) → seen.left ≡ Decided number verdicts.Commit → (gone : Left) → gone ≡ Nothing → GoesOn (Decided number verdicts.Commit) (record seen { left = gone }) own shared result after new
      → Advances old judged shared result after new
  went_committing number at gone none goes = onward (Decided number verdicts.Commit) at goes

  pub went_backing : (number : ℕ) (cause : Cause) → seen.left ≡ Decided number (verdicts.BackUp cause) → (gone : Left) → gone ≡ Nothing
      → GoesOn (Decided number (verdicts.BackUp cause)) (record seen { left = gone }) own shared result after new → Advances old judged shared result after new
  went_backing number cause at gone none goes = onward (Decided number (verdicts.BackUp cause)) at goes
