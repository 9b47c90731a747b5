-- Bytes that are put into a room one behind another, and sizes.
use Rattle.std.proofs.Common.{◌≡◌, ℕ, ◌+◌, ◌≤◌, ◌<◌, zero, suc, List, [], ◌∷◌, ◌++◌, length, take, drop, refl, sym, ap, subst, ◌∙◌, append_assoc, append-nil, arith, Option, None, Some, slice_get}
use Rattle.std.specs.Prelude.{min}
use Rattle.std.proofs.Math.Seq.{drop-append-add, take-append_seam}
use Rattle.std.proofs.lemmas.List.{length-append, length-take-le, drop-drop}
use Rattle.occ_types.specs.Row.{Cell, Row}
use Rattle.occ_bytes.specs.Bytes.{put_at, number_bytes, cell_bytes, row_bytes, IsSize}

pub eight : (number : ℕ) → length (number_bytes number) ≡ 8
unfolding number_bytes
eight number = refl

-- a room that is `front`, what was put, and a rest
took : (front xs rest : List ℕ) (n : ℕ) → n ≡ length front + length xs → take n (front ++ xs ++ rest) ≡ front ++ xs
took front xs rest n is = ap (λ (k : ℕ). take k (front ++ xs ++ rest)) (is ∙ sym (length-append front xs)) ∙ take-append_seam (front ++ xs) rest

left : (front xs rest : List ℕ) (n k : ℕ) → n ≡ length front + length xs + k → drop n (front ++ xs ++ rest) ≡ drop k rest
left front xs rest n k is = ap (λ (m : ℕ). drop m (front ++ xs ++ rest)) (is ∙ ap (λ (m : ℕ). m + k) (sym (length-append front xs)))
    ∙ drop-append-add (front ++ xs) rest k

pub put_more : (room : List ℕ) (at : ℕ) (xs ys : List ℕ) → at + length (xs ++ ys) ≤ length room → put_at (put_at room at xs) (at + length xs) ys ≡ put_at room at (xs ++ ys)
put_more room at xs ys fits =
    let both : length (xs ++ ys) ≡ length xs + length ys = length-append xs ys in
    let long : length (take at room) ≡ at = length-take-le at room (omega (arith, both)) in
    let front : take (at + length xs) (put_at room at xs) ≡ take at room ++ xs = took (take at room) xs (drop (at + length xs) room) (at + length xs) (ap (λ (k : ℕ). k + length xs) (sym long)) in
    let back : drop (at + length xs + length ys) (put_at room at xs) ≡ drop (at + length (xs ++ ys)) room =
    left (take at room) xs (drop (at + length xs) room) (at + length xs + length ys) (length ys) (ap (λ (k : ℕ). k + length xs + length ys) (sym long))
    ∙ drop-drop (length ys) (at + length xs) room ∙ ap (λ (k : ℕ). drop k room) (omega (arith, both)) in
    ap (λ (l : List ℕ). l ++ ys ++ drop (at + length xs + length ys) (put_at room at xs)) front
    ∙ ap (λ (l : List ℕ). take at room ++ xs ++ ys ++ l) back
    ∙ ap (λ (l : List ℕ). l ++ drop (at + length (xs ++ ys)) room) (append_assoc (take at room) xs ys)

-- what puts some bytes, and then others behind them
pub put_both : (room mid new : List ℕ) (at behind result : ℕ) (first second xs ys : List ℕ) → first ≡ xs → second ≡ ys → length mid ≡ length room
    → (at + length first ≤ length room → (mid ≡ put_at room at first) × (behind ≡ at + length first))
    → (behind + length second ≤ length mid → (new ≡ put_at mid behind second) × (result ≡ behind + length second))
    → at + length (xs ++ ys) ≤ length room → (new ≡ put_at room at (xs ++ ys)) × (result ≡ at + length (xs ++ ys))
put_both room mid new at behind result first second xs ys is also same puts puts_more fits =
    let long : length (xs ++ ys) ≡ length xs + length ys = length-append xs ys in
    let lx : length first ≡ length xs = ap (λ (l : List ℕ). length l) is in
    let ly : length second ≡ length ys = ap (λ (l : List ℕ). length l) also in
    let one : (mid ≡ put_at room at first) × (behind ≡ at + length first) = puts (omega (arith, long, lx)) in
    let there : mid ≡ put_at room at first = one.0 in
    let place : behind ≡ at + length first = one.1 in
    let two : (new ≡ put_at mid behind second) × (result ≡ behind + length second) = puts_more (omega (arith, long, lx, ly, place, same)) in
    let end : result ≡ behind + length second = two.1 in (
      two.0 ∙ ap (λ (l : List ℕ). put_at l behind second) there ∙ ap (λ (k : ℕ). put_at (put_at room at first) k second) place
          ∙ put_more room at first second (omega (arith, length-append first second, long, lx, ly))
          ∙ ap (λ (l : List ℕ). put_at room at (l ++ second)) is ∙ ap (λ (l : List ℕ). put_at room at (xs ++ l)) also,
      omega (arith, end, place, long, lx, ly),
    )

-- ---- sizes

pub number_size : (number : ℕ) → IsSize 8 (length (number_bytes number))
number_size number = ap (λ (k : ℕ). min k 18446744073709551615) (sym (eight number))

pub number_sized : (bytes : List ℕ) (number : ℕ) → bytes ≡ number_bytes number → IsSize 8 (length bytes)
number_sized bytes number is = subst (λ (l : List ℕ). IsSize 8 (length l)) (sym is) (number_size number)

-- the size of what stands behind other bytes
pub size_more : (size more sum : ℕ) (xs ys : List ℕ) → IsSize size (length xs) → IsSize more (length ys) → sum ≡ min (size + more) 18446744073709551615 → IsSize sum (length (xs ++ ys))
size_more size more sum xs ys is also sums = omega (arith, is, also, sums, length-append xs ys)

-- ---- rows, cell by cell

pub there : (cells : Row) (place : ℕ) → place < length cells → (cell : Cell) × (slice_get cells place ≡ Some cell)
there [] place below = absurd (omega (arith, below))
there (cell ∷ cells) zero below = (cell, refl)
there (cell ∷ cells) (suc place) below = there cells place (omega (arith, below))

pub row_more : (cells : Row) (place : ℕ) (cell : Cell) → slice_get cells place ≡ Some cell → row_bytes (take (place + 1) cells) ≡ row_bytes (take place cells) ++ cell_bytes cell
row_more [] place cell is = absurd (cc is)
row_more (first ∷ cells) zero cell is = append-nil (cell_bytes first) ∙ ap (λ (o : Option Cell). cell_bytes (elim o [ None ↦ first | Some it ↦ it ])) is
row_more (first ∷ cells) (suc place) cell is =
    let e : suc place + 1 ≡ suc (place + 1) = omega arith in
    ap (λ (k : ℕ). row_bytes (take k (first ∷ cells))) e ∙ ap (λ (l : List ℕ). cell_bytes first ++ l) (row_more cells place cell is) ∙ sym (append_assoc (cell_bytes first) (row_bytes (take place cells)) (cell_bytes cell))

pub row_pushed : (cells : Row) (cell : Cell) → row_bytes (cells ++ cell ∷ []) ≡ row_bytes cells ++ cell_bytes cell
row_pushed [] cell = append-nil (cell_bytes cell)
row_pushed (first ∷ cells) cell = ap (λ (l : List ℕ). cell_bytes first ++ l) (row_pushed cells cell) ∙ sym (append_assoc (cell_bytes first) (row_bytes cells) (cell_bytes cell))

-- a beginning of a row is no longer than the row
part : (cells : Row) (place : ℕ) → length (row_bytes (take place cells)) ≤ length (row_bytes cells)
part [] zero = omega arith
part [] (suc place) = omega arith
part (cell ∷ cells) zero = omega arith
part (cell ∷ cells) (suc place) = omega (arith, part cells place, length-append (cell_bytes cell) (row_bytes (take place cells)), length-append (cell_bytes cell) (row_bytes cells))

-- one more cell of a row is put
pub put_turn : (first room new : List ℕ) (at behind result : ℕ) (row : Row) (place : ℕ) → place < length row
    → (length room ≡ length first) × (at + length (row_bytes row) ≤ length first → (room ≡ put_at first at (row_bytes (take place row))) × (behind ≡ at + length (row_bytes (take place row))))
    → length new ≡ length room
    → ((cell : Cell) → slice_get row place ≡ Some cell → behind + length (cell_bytes cell) ≤ length room → (new ≡ put_at room behind (cell_bytes cell)) × (result ≡ behind + length (cell_bytes cell)))
    → (length new ≡ length first) × (at + length (row_bytes row) ≤ length first → (new ≡ put_at first at (row_bytes (take (place + 1) row))) × (result ≡ at + length (row_bytes (take (place + 1) row))))
put_turn first room new at behind result row place below before same puts =
    let here : (cell : Cell) × (slice_get row place ≡ Some cell) = there row place below in
    let more : row_bytes (take (place + 1) row) ≡ row_bytes (take place row) ++ cell_bytes here.0 = row_more row place here.0 here.1 in
    let kept : length room ≡ length first = before.0 in (
      same ∙ kept,
      λ fits. subst (λ (l : List ℕ). (new ≡ put_at first at l) × (result ≡ at + length l)) (sym more)
          (put_both first room new at behind result (row_bytes (take place row)) (cell_bytes here.0) (row_bytes (take place row)) (cell_bytes here.0) refl refl kept
          (λ _. before.1 fits) (puts here.0 here.1)
          (omega (arith, fits, part row (place + 1), ap (λ (l : List ℕ). length l) more))),
    )

-- the size of a row with one more cell
pub size_turn : (size more sum : ℕ) (row : Row) (place : ℕ) → place < length row → IsSize size (length (row_bytes (take place row)))
    → ((cell : Cell) → slice_get row place ≡ Some cell → IsSize more (length (cell_bytes cell))) → sum ≡ min (size + more) 18446744073709551615
    → IsSize sum (length (row_bytes (take (place + 1) row)))
size_turn size more sum row place below before is sums =
    let here : (cell : Cell) × (slice_get row place ≡ Some cell) = there row place below in
    subst (λ (l : List ℕ). IsSize sum (length l)) (sym (row_more row place here.0 here.1)) (size_more size more sum (row_bytes (take place row)) (cell_bytes here.0) before (is here.0 here.1) sums)

-- a cell is read, and pushed behind those that were
pub read_more : (cells new : Row) (cell : Cell) (bytes rest : List ℕ) → new ≡ cells ++ cell ∷ [] → bytes ≡ cell_bytes cell ++ rest
    → row_bytes cells ++ bytes ≡ row_bytes new ++ rest
read_more cells new cell bytes rest pushed took = ap (λ (l : List ℕ). row_bytes cells ++ l) took ∙ sym (append_assoc (row_bytes cells) (cell_bytes cell) rest)
    ∙ ap (λ (l : List ℕ). l ++ rest) (sym (row_pushed cells cell) ∙ ap row_bytes (sym pushed))
