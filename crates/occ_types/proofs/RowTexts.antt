-- A row is written cell by cell.
use Rattle.std.proofs.Common.{◌≡◌, ℕ, ◌+◌, ◌-◌, ◌<◌, List, [], ◌∷◌, ◌++◌, length, take, drop, get_or, refl, sym, ap, ◌∙◌, append_assoc, arith, add-one}
use Rattle.std.proofs.lemmas.List.{take_more, take_rest, length-take-le, length-drop, length-map, get_or-drop, get_or-map}
use Rattle.occ_types.specs.declared.cells.Cell as code_cell
use Rattle.occ_types.specs.PlainData.{cell_of, row_of}
use Rattle.occ_types.specs.Row.{Cell, Row}
use Rattle.occ_types.specs.Spelling.{cell_text, row_text, comma}

-- one more cell behind the others
pub row_push : (cells : Row) (cell : Cell) → row_text (cells ++ cell ∷ []) ≡ row_text cells ++ (comma (length cells) ++ cell_text cell)
row_push [] cell = refl
row_push (a ∷ []) cell = refl
row_push (a ∷ b ∷ cells) cell =
    ap (λ (l : List ℕ). cell_text a ++ 44 ∷ l) (row_push (b ∷ cells) cell) ∙ sym (append_assoc (cell_text a) (44 ∷ row_text (b ∷ cells)) (44 ∷ cell_text cell))

-- the next cell behind the first one and as many more
pub row_next : {Z : Type 0} (cells : List (code_cell.Cell Z)) (row : Row) (place : ℕ) (cell : code_cell.Cell Z) → row_of cells ≡ row
    → place < length (take (length cells - 1) (drop 1 cells)) → cell ≡ get_or (take (length cells - 1) (drop 1 cells)) place cell
    → row_text (take (place + 1) row) ++ (44 ∷ cell_text (cell_of cell)) ≡ row_text (take (place + 1 + 1) row)
row_next cells row place cell same within is =
    let rest = take_rest cells 1 in
    let many : length cells ≡ length row = sym (length-map cells cell_of) ∙ ap length same in
    let short : place + 1 < length row = omega (arith, ap length rest, length-drop 1 cells, many) in
    let next : 1 + place ≡ place + 1 = omega arith in
    let here : cell ≡ get_or cells (place + 1) cell = is ∙ ap (λ l. get_or l place cell) rest ∙ get_or-drop 1 cells place cell ∙ ap (λ k. get_or cells k cell) next in
    let there : get_or row (place + 1) (cell_of cell) ≡ cell_of cell =
    ap (λ l. get_or l (place + 1) (cell_of cell)) (sym same) ∙ get_or-map cell_of cells (place + 1) cell (cell_of cell) (omega (arith, many)) ∙ ap cell_of (sym here) in
    let done = take (place + 1) row in
    let count : length done ≡ place + 1 = length-take-le (place + 1) row (omega arith) in
    sym (ap row_text (take_more row (place + 1) (cell_of cell) short ∙ ap (λ c. done ++ c ∷ []) there) ∙ row_push done (cell_of cell)
    ∙ ap (λ k. row_text done ++ (comma k ++ cell_text (cell_of cell))) (count ∙ add-one place))
