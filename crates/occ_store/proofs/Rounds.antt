-- Lanes that are served in rounds.
use Rattle.std.proofs.Common.{◌≡◌, ◌≢◌, ◌⊎◌, ℕ, zero, suc, arith, ◌<◌, Bool, true, false, List, [], ◌∷◌, ◌++◌, Option, None, Some, inl, inr, length, get_or, refl, sym, ap, subst, ◌∙◌}
use Rattle.std.specs.Prelude.{◌==◌, Result, Err, slice_set as set}
use Rattle.std.specs.Option.{option_or}
use Rattle.std.proofs.lemmas.Bool.{eqb-true, eq-eqb}
use Rattle.std.proofs.lemmas.Grind.{get_or-set_at}
use Rattle.std.proofs.lemmas.List.{append_assoc, append-nil, get_or_default, get_or-set_other, length-set}
use Rattle.occ_model.proofs.Tests.{decided}
use Rattle.occ_types.specs.declared.fault.Fault.{Fault}
use Rattle.occ_store.specs.declared.serving.Served.{Served}
use Rattle.occ_store.specs.Names.{Named}
use Rattle.occ_store.specs.Lanes.{LaneView}
use Rattle.occ_store.specs.Serving.{Stops, Serves, keeping, IsServed, AreServed, IsOver, AreOver, AllAreOver, HasMet, HasEnded, HaveEnded, AllHaveEnded, IsMetMarked, IsMet, TellsFault}
use Rattle.occ_queue.specs.Items.{number_of}
use Rattle.occ_store.proofs.Histories.{on_self, on_trans}
use Rattle.occ_store.proofs.Points.{rests_go_on}

pub served_still : (lane : LaneView) → IsServed lane lane
served_still lane = (refl, ([], append-nil _), on_self lane.front)

pub served_more : (a b c : LaneView) → IsServed a b → IsServed b c → IsServed a c
served_more a b c first next = (
  next.0 ∙ first.0,
  (first.1.0 ++ next.1.0, sym (append_assoc a.receiver.taken first.1.0 next.1.0) ∙ ap (λ xs. xs ++ next.1.0) first.1.1 ∙ next.1.1),
  on_trans a.front b.front c.front first.2 next.2,
)

pub all_still : (lanes : List LaneView) → AreServed lanes lanes
all_still lanes = record { count = refl; each = λ place none. served_still (get_or lanes place none) }

pub all_more : (a b c : List LaneView) → AreServed a b → AreServed b c → AreServed a c
all_more a b c first next = record {
  count = next.count ∙ first.count;
  each = λ place none. served_more (get_or a place none) (get_or b place none) (get_or c place none) (first.each place none) (next.each place none);
}

clash : {P : Type 0} → true ≡ false → P
clash e = cc e

-- two places are one, or apart
by_place : (one other : ℕ) {P : Type 0} → (one ≡ other → P) → (one ≢ other → P) → P
by_place one other same apart = decided (one == other) (λ yes. same (eqb-true one other yes)) (λ no. apart (λ is. clash (sym (eq-eqb one other is) ∙ no)))

-- one lane of a list is served, and is put back into its place
pub all_set : (lanes : List LaneView) (place : ℕ) (old lane : LaneView) → place < length lanes → old ≡ get_or lanes place old → IsServed old lane → AreServed lanes (set lanes place lane)
all_set lanes place old lane there is served = record {
  count = length-set lanes place lane;
  each = λ other none. by_place other place
      (λ same. subst (λ at. IsServed (get_or lanes at none) (get_or (set lanes place lane) at none)) (sym same)
      (rw (get_or-set_at lanes place place lane none refl there, get_or_default lanes place none old there) (subst (λ x. IsServed x lane) is served)))
      (λ apart. rw (get_or-set_other lanes place other lane none apart) (served_still (get_or lanes other none)));
}

-- what is so of each lane that is marked
abbrev pub EachMarked : (LaneView → Type 0) → List Bool → List LaneView → Type 0
EachMarked Is marks lanes = (place : ℕ) (none : LaneView) → get_or marks place false ≡ true → Is (get_or lanes place none)

module _ (Is : LaneView → Type 0) (marks : List Bool) (lanes : List LaneView) (place : ℕ) (lane : LaneView) where
  -- a lane that is not marked is served: of those that are marked it is so as before
  pub so_unmarked : get_or marks place false ≡ false → EachMarked Is marks lanes → EachMarked Is marks (set lanes place lane)
  so_unmarked unmarked each = λ other none marked. by_place other place
      (λ same. clash (sym marked ∙ ap (λ at. get_or marks at false) same ∙ unmarked))
      (λ apart. rw (get_or-set_other lanes place other lane none apart) (each other none marked))

  -- a lane of which it is so is marked
  pub so_marked : place < length lanes → Is lane → EachMarked Is marks lanes → EachMarked Is (set marks place true) (set lanes place lane)
  so_marked there is each = λ other none marked. by_place other place
      (λ same. rw (get_or-set_at lanes place other lane none same there) is)
      (λ apart. rw (get_or-set_other lanes place other lane none apart)
      (each other none (sym (get_or-set_other marks place other true false apart) ∙ marked)))

pub over_unmarked : (stops : Stops) (marks : List Bool) (lanes : List LaneView) (place : ℕ) (lane : LaneView) → get_or marks place false ≡ false
    → AreOver stops marks lanes → AreOver stops marks (set lanes place lane)
over_unmarked stops = so_unmarked (IsOver stops)

pub over_marked : (stops : Stops) (marks : List Bool) (lanes : List LaneView) (place : ℕ) (lane : LaneView) → place < length lanes → IsOver stops lane
    → AreOver stops marks lanes → AreOver stops (set marks place true) (set lanes place lane)
over_marked stops = so_marked (IsOver stops)

-- a place that is marked lies within the marks
marked_within : (marks : List Bool) (place : ℕ) → get_or marks place false ≡ true → place < length marks
marked_within [] zero marked = clash (sym marked)
marked_within [] (suc place) marked = clash (sym marked)
marked_within (x ∷ xs) zero marked = omega arith
marked_within (x ∷ xs) (suc place) marked = let within = marked_within xs place marked in omega arith

-- how lanes have ended, and which fault is told
module _ (named : Named) (stops : Stops) (marks : List Bool) (lanes : List LaneView) (place : ℕ) (lane : LaneView) (unmarked : get_or marks place false ≡ false) where
  apart_from : (other : ℕ) → get_or marks other false ≡ true → other ≢ place
  apart_from other marked = λ same. clash (sym marked ∙ ap (λ at. get_or marks at false) same ∙ unmarked)

  still_met : (fault : Option Fault) → IsMetMarked named stops fault marks lanes → IsMetMarked named stops fault marks (set lanes place lane)
  still_met None met = tt
  still_met (Some fault) (other, marked, met) = (other, marked, λ none. rw (get_or-set_other lanes place other lane none (apart_from other marked)) (met none))

  met_before : (fault : Option Fault) → IsMetMarked named stops fault marks lanes → IsMetMarked named stops fault (set marks place true) (set lanes place lane)
  met_before None met = tt
  met_before (Some fault) (other, marked, met) = (
    other,
    get_or-set_other marks place other true false (apart_from other marked) ∙ marked,
    λ none. rw (get_or-set_other lanes place other lane none (apart_from other marked)) (met none),
  )

  -- the lane goes on, and tells no fault
  pub met_still : (before after : Option Fault) → after ≡ before → IsMetMarked named stops before marks lanes → IsMetMarked named stops after marks (set lanes place lane)
  met_still before after same met = subst (λ fault. IsMetMarked named stops fault marks (set lanes place lane)) (sym same) (still_met before met)

  -- the lane has ended, and tells a fault where it is the first
  pub met_marked : (old : LaneView) (before after : Option Fault) → place < length marks → place < length lanes → TellsFault named stops old before after lane
      → IsMetMarked named stops before marks lanes → IsMetMarked named stops after (set marks place true) (set lanes place lane)
  met_marked old before after within there (inl same) met =
      subst (λ fault. IsMetMarked named stops fault (set marks place true) (set lanes place lane)) (sym same) (met_before before met)
  met_marked old before after within there (inr (none, (fault, is, serves))) met =
      subst (λ f. IsMetMarked named stops f (set marks place true) (set lanes place lane)) (sym is)
      (place, get_or-set_at marks place place true false refl within, λ none. rw (get_or-set_at lanes place place lane none refl there) (old, serves))

-- where each is marked, each has ended, and one of them met the fault
pub ended_all : (named : Named) (stops : Stops) (marks : List Bool) (lanes : List LaneView) → length marks ≡ length lanes → ((place : ℕ) → place < length marks → get_or marks place false ≡ true)
    → HaveEnded named stops marks lanes → AllHaveEnded named stops lanes
ended_all named stops marks lanes count each ended = λ place none there. ended place none (each place (omega (arith, count, there)))

pub met_all : (named : Named) (stops : Stops) (fault : Option Fault) (marks : List Bool) (lanes : List LaneView) → length marks ≡ length lanes
    → IsMetMarked named stops fault marks lanes → IsMet named stops fault lanes
met_all named stops None marks lanes count met = tt
met_all named stops (Some fault) marks lanes count (place, marked, met) = (place, (let within = marked_within marks place marked in omega (arith, count, within)), met)

-- where none is marked, none has ended
pub none_ended : (named : Named) (stops : Stops) (marks : List Bool) (lanes : List LaneView) → ((place : ℕ) → get_or marks place false ≡ false) → HaveEnded named stops marks lanes
none_ended named stops marks lanes unmarked = λ place none marked. clash (sym marked ∙ unmarked place)

-- a mark that was found not to be set
pub not_marked : (marks : List Bool) (place : ℕ) (mark : Bool) → mark ≡ get_or marks place mark → mark ≡ false → get_or marks place false ≡ false
not_marked marks place mark at is = subst (λ (m : Bool). get_or marks place m ≡ m) is (sym at)

-- where each is marked, each is over
pub over_all : (stops : Stops) (marks : List Bool) (lanes : List LaneView) → length marks ≡ length lanes → ((place : ℕ) → place < length marks → get_or marks place false ≡ true)
    → AreOver stops marks lanes → AllAreOver stops lanes
over_all stops marks lanes count each over = λ place none there. over place none (each place (omega (arith, count, there)))

-- one more mark that is not set
pub unmarked_more : (marks : List Bool) → ((place : ℕ) → get_or marks place false ≡ false) → (place : ℕ) → get_or (marks ++ false ∷ []) place false ≡ false
unmarked_more [] none zero = refl
unmarked_more [] none (suc place) = refl
unmarked_more (x ∷ xs) none zero = none zero
unmarked_more (x ∷ xs) none (suc place) = unmarked_more xs (λ p. none (suc p)) place

-- a lane that was served once
pub served_once : (named : Named) (stops : Stops) (old new : LaneView) (result : Result Served Fault) → Serves named stops old result new → IsServed old new
served_once named stops old new result (inl (number, is, ((same, rests), comes))) =
    (same.0, ([], append-nil old.receiver.taken ∙ sym (ap (λ receiver. receiver.taken) same.1)), rests_go_on named old new number result rests)
served_once named stops old new result (inr (inl (item, nothing, ((same, rests), comes)))) =
    (same.0, (item ∷ [], sym (ap (λ receiver. receiver.taken) same.1)), rests_go_on named (keeping old item) new (number_of item) result rests)
served_once named stops old new result (inr (inr (inl ((nothing, same, is), still, all)))) = subst (IsServed old) (sym same) (served_still old)
served_once named stops old new result (inr (inr (inr ((nothing, same, is), mark)))) = subst (IsServed old) (sym same) (served_still old)

-- the first fault that is met is told, and stays
pub tells_first : (named : Named) (stops : Stops) (old new : LaneView) (before after : Option Fault) (met : Fault) → after ≡ option_or before (Some met) → Serves named stops old (Err met) new
    → TellsFault named stops old before after new
tells_first named stops old new None after met is serves = inr (refl, (met, is, serves))
tells_first named stops old new (Some fault) after met is serves = inl is

-- a turn that is not the last one tells no fault that is new
pub tells_none : {T : Type 0} (turn one other : T) (before after : Option Fault) → (one ≡ other → ⊥) → turn ≡ one → (after ≡ before) ⊎ (turn ≡ other) → after ≡ before
tells_none turn one other before after differ is (inl same) = same
tells_none turn one other before after differ is (inr last) = absurd (differ (sym is ∙ last))

-- a lane that met a fault has ended
pub ended_at : (named : Named) (stops : Stops) (old new : LaneView) (met : Fault) → Serves named stops old (Err met) new → HasEnded named stops new
ended_at named stops old new met serves = inr (met, (old, serves))

-- what is told of a call is told of what stood there before and stands there now
pub told_there : {T : Type 0} (Tells : T → T → Type 0) (before after old new : T) → old ≡ before → new ≡ after → Tells old new → Tells before after
told_there Tells before after old new was is tells = subst (Tells before) is (subst (λ x. Tells x new) was tells)
