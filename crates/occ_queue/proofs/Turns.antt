-- The queue of a session keeps its law as it is pushed to.
use Rattle.std.proofs.Common.{◌≡◌, ℕ, suc, ◌+◌, ◌<◌, ◌≤◌, Bool, true, false, not, List, [], ◌∷◌, ◌++◌, map, length, None, refl, sym, ap, subst, ◌∙◌, arith}
use Rattle.std.specs.Prelude.{◌==◌}
use Rattle.std.proofs.lemmas.Bool.{leb-false, ltb-false, eqb-true}
use Rattle.std.proofs.lemmas.List.{length_push, map-append}
use Rattle.occ_types.specs.declared.fault.Fault.{Fault}
use Rattle.occ_types.specs.declared.limits.TheConstants.{MAX_NUMBER}
use Rattle.occ_types.specs.Schema.{fault_if, first_fault}
use Rattle.occ_model.specs.Event.{Item, Close}
use Rattle.occ_model.specs.Log.{Counts}
use Rattle.occ_model.proofs.Orders.{Counts-push}
use Rattle.occ_model.proofs.Tests as tests
use Rattle.occ_queue.specs.Items.{number_of, is_mark}
use Rattle.occ_queue.specs.Numbering.{Numbered, behind, next, with_item, turn_fault, close_fault, EndsWithMark, IsInTurn}

pub behind_in_turn : (limit last : ℕ) → last ≤ MAX_NUMBER → IsInTurn (behind limit last)
behind_in_turn limit last within = record {
  numbered = (last, omega arith, tt);
  begun = omega arith;
  ended = tt;
  within = within;
  spare = λ _ below. below;
}

-- what holds where none of three tests has a fault
none_of_three : (a b c : Bool) (f g h : Fault) → first_fault (fault_if a f ∷ fault_if b g ∷ fault_if c h ∷ []) ≡ None → (a ≡ false) × (b ≡ false) × (c ≡ false)
none_of_three false false false f g h e = (refl, refl, refl)
none_of_three true b c f g h e = cc
none_of_three false true c f g h e = cc
none_of_three false false true f g h e = cc

-- and where none of two
none_of_two : (a b : Bool) (f g : Fault) → first_fault (fault_if a f ∷ fault_if b g ∷ []) ≡ None → (a ≡ false) × (b ≡ false)
none_of_two false false f g e = (refl, refl)
none_of_two true b f g e = cc
none_of_two false true f g e = cc

-- one more item after others that are no marks
ends-push : (closed : Bool) (items : List Item) (item : Item) → closed ≡ false → EndsWithMark closed items → EndsWithMark (is_mark item) (items ++ item ∷ [])
ends-push closed [] item still ends = refl
ends-push closed (one ∷ []) item still ends = (ends ∙ still, refl)
ends-push closed (one ∷ two ∷ items) item still ends = (ends.0, ends-push closed (two ∷ items) item still ends.1)

pub pushed_in_turn : (queue : Numbered) (item : Item) → IsInTurn queue → queue.closed ≡ false → number_of item ≡ next queue → next queue ≤ MAX_NUMBER → (is_mark item ≡ false → next queue < MAX_NUMBER) → IsInTurn (with_item queue item)
pushed_in_turn queue item law still number within spare =
    let taken = law.numbered.0 in
    let all : queue.pushed ≡ taken + length queue.items = law.numbered.1 in
    let longer : length (queue.items ++ item ∷ []) ≡ length queue.items + 1 = length_push queue.items item in
    let last : number_of item ≡ suc taken + length (map number_of queue.items) = number ∙ (let counted : length (map number_of queue.items) ≡ length queue.items = length_map queue.items in omega arith) in
    let begun = law.begun in
    record {
      numbered = (taken, omega arith, subst (Counts (suc taken)) (sym (map-append number_of queue.items (item ∷ []))) (Counts-push (suc taken) (number_of item) (map number_of queue.items) law.numbered.2 last));
      begun = omega arith;
      ended = ends-push queue.closed queue.items item still law.ended;
      within = within;
      spare = λ unmarked _. spare unmarked;
    }
  where
    length_map : (items : List Item) → length (map number_of items) ≡ length items
    length_map [] = refl
    length_map (one ∷ items) = ap suc (length_map items)

-- an item that may be submitted
pub may_submit : (queue : Numbered) (item : Item) → IsInTurn queue → turn_fault queue item ≡ None → IsInTurn (with_item queue item)
may_submit queue item law free =
    let fine = none_of_three _ _ _ _ _ _ free in
    let parts = tests.or_false (is_mark item) (not (number_of item == next queue)) fine.2 in
    let number = eqb-true (number_of item) (next queue) (tests.not_false _ parts.1) in
    let below = leb-false MAX_NUMBER (next queue) fine.1 in
    pushed_in_turn queue item law fine.0 number (omega arith) (λ _. below)

-- and the closing mark, where it may be pushed
pub may_close : (queue : Numbered) (number : ℕ) → IsInTurn queue → close_fault queue ≡ None → number ≡ next queue → IsInTurn (with_item queue (Close number))
may_close queue number law free told =
    let fine = none_of_two _ _ _ _ free in
    let left = ltb-false MAX_NUMBER (next queue) fine.1 in
    pushed_in_turn queue (Close number) law fine.0 told (omega arith) (λ (e : true ≡ false). cc e)
