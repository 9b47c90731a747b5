-- A range of which nothing is written is seen as the table answers it.
use Rattle.std.proofs.Common.{◌≡◌, Bool, true, false, ◌||◌, List, [], ◌∷◌, map, refl, sym, ap, ◌∙◌}
use Rattle.std.specs.List.Sorted.{IsStrictlySortedBy}
use Rattle.occ_types.specs.declared.keys.Key as code_key
use Rattle.occ_types.specs.Key.{Key}
use Rattle.occ_types.specs.Question.{Question, asks}
use Rattle.occ_types.specs.Row.{Row}
use Rattle.occ_model.specs.State.{State, Write, Rows, answer, apply, meets_question, put}
use Rattle.occ_sets.specs.Merging.{Led}
use Rattle.occ_sets.specs.Overlays.{rows_over}
use Rattle.occ_sets.specs.PlainSets.{rows_of}
use Rattle.occ_sets.proofs.Agreement.{key_back, key_of-key_back}
use Rattle.occ_sets.proofs.Leading.{led-none, led-unasked, merged_none, merged_over}

first_none : (a b : Bool) → (a || b) ≡ false → a ≡ false
first_none true b h = h
first_none false b h = refl

second_none : (a b : Bool) → (a || b) ≡ false → b ≡ false
second_none true b h = cc
second_none false b h = h

module _ (Z : Type 0) where
  rows_back : List (Key × Row) → List (code_key.Key Z × Row)
  rows_back = map (λ e. (key_back Z e.0, e.1))

  rows_of-rows_back : (rows : List (Key × Row)) → rows_of (rows_back rows) ≡ rows
  unfolding rows_back
  rows_of-rows_back [] = refl
  rows_of-rows_back (row ∷ rows) =
      let first = key_of-key_back Z row.0 in
      let rest = rows_of-rows_back rows in
      λ i. (first i, row.1) ∷ rest i

  -- writes that are not asked for lead nowhere
  leads_nowhere : (question : Question) (writes : List Write) → meets_question writes question ≡ false → (from to : State) → Led {Z = Z} question [] from to → Led {Z = Z} question [] from (apply to writes)
  leads_nowhere question [] none from to h = h
  leads_nowhere question (write ∷ writes) none from to h =
      leads_nowhere question writes (second_none (asks question write.0) (meets_question writes question) none) from (put to write)
      (led-unasked question [] write.0 write.1 (first_none (asks question write.0) (meets_question writes question) none) from to h)

-- the rows with writes over them that are not asked for are the rows
pub untouched : (Z : Type 0) (question : Question) (writes : List Write) (state : State) (rows : List (Key × Row)) → meets_question writes question ≡ false → answer question state ≡ Rows rows → rows_over question writes rows ≡ rows
unfolding IsStrictlySortedBy
untouched Z question writes state rows none answers =
    let back = rows_back Z rows in
    let same = rows_of-rows_back Z rows in
    ap (rows_over question writes) (sym same)
    ∙ sym (merged_over {Z = Z} question state writes back [] (answers ∙ ap Rows (sym same)) tt (λ from. leads_nowhere Z question writes none from from (led-none question [] from refl)))
    ∙ ap rows_of (merged_none back)
    ∙ same
