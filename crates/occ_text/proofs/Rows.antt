-- A row is written cell by cell.
use Rattle.std.proofs.Common.{◌≡◌, ℕ, ◌+◌, List, [], ◌∷◌, ◌++◌, length, take, Some, sym, ap, ◌∙◌, append_assoc, arith}
use Rattle.std.proofs.lemmas.List.{take_more, length-take-le}
use Rattle.std.proofs.lemmas.Option.{slice_get_within, get_or_from_slice_get}
use Rattle.std.specs.Prelude.{slice_get}
use Rattle.occ_types.specs.Row.{Cell, Row}
use Rattle.occ_types.specs.Spelling.{cell_text, row_text, comma}
use Rattle.occ_types.proofs.RowTexts.{row_push}

-- one more cell behind those that were written
pub row_more : (old line mid new : List ℕ) (row : Row) (place : ℕ) (cell : Cell) → Some cell ≡ slice_get row place
    → line ≡ old ++ row_text (take place row) → mid ≡ line ++ comma place → new ≡ mid ++ cell_text cell → new ≡ old ++ row_text (take (place + 1) row)
row_more old line mid new row place cell is so_far with_comma with_cell =
    let done = take place row in
    let lt = slice_get_within row place cell (sym is) in
    let n : length done ≡ place = length-take-le place row (omega arith) in
    let more : take (place + 1) row ≡ done ++ cell ∷ [] = take_more row place cell lt ∙ ap (λ y. done ++ y ∷ []) (get_or_from_slice_get row place cell cell (sym is)) in
    let text : row_text (take (place + 1) row) ≡ row_text done ++ (comma place ++ cell_text cell) =
    ap row_text more ∙ row_push done cell ∙ ap (λ (k : ℕ). row_text done ++ (comma k ++ cell_text cell)) n in
    with_cell ∙ ap (λ (l : List ℕ). l ++ cell_text cell) (with_comma ∙ ap (λ (l : List ℕ). l ++ comma place) so_far)
    ∙ append_assoc (old ++ row_text done) (comma place) (cell_text cell) ∙ append_assoc old (row_text done) (comma place ++ cell_text cell)
    ∙ ap (λ (l : List ℕ). old ++ l) (sym text)
