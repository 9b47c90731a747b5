-- The steps of the loops that check cells and tables.
use Rattle.std.proofs.Common.{◌≡◌, ℕ, zero, suc, arith, ◌+◌, ◌<◌, ◌≤◌, Bool, true, ◌||◌, cond, List, [], ◌∷◌, Option, None, Some, length, get_or, drop, refl, sym, ap, ◌∙◌, add-one, drop-cons}
use Rattle.std.proofs.lemmas.Iterator.Adapters.{position_from-zero}
use Rattle.std.proofs.lemmas.List.{drop_all}
use Rattle.std.proofs.lemmas.Option.{slice_get_within, get_or_from_slice_get}
use Rattle.std.specs.Prelude.{map, slice_get}
use Rattle.std.specs.List.{list_any, position, position_from}
use Rattle.occ_types.specs.declared.fault.Fault.{Fault}
use Rattle.occ_types.specs.declared.kind.Kind.{Kind}
use Rattle.occ_types.specs.Schema.{first_fault, check_cell, check_cells}
use Rattle.occ_types.specs.Row.{Cell, Row}

-- what is left from a place on begins with the element there
pub drop_at : {X : Type 0} (xs : List X) (i : ℕ) (d x : X) → i < length xs → x ≡ get_or xs i d → drop i xs ≡ x ∷ drop (i + 1) xs
drop_at xs i d x h e = rw add-one (drop-cons xs i d h ∙ ap (λ y. y ∷ drop (suc i) xs) (sym e))

-- a place that a list has is not empty
pub is_there : {X P : Type 0} (xs : List X) (i : ℕ) → None ≡ slice_get xs i → i < length xs → P
is_there [] i e h = absurd (omega arith)
is_there (x ∷ xs) zero e h = cc
is_there (x ∷ xs) (suc i) e h = is_there xs i e (omega arith)

-- a fault of the first test is the answer
pub first_fault-early : (a rest : Option Fault) (fault : Fault) → a ≡ Some fault → first_fault (a ∷ rest ∷ []) ≡ Some fault
first_fault-early None rest fault e = cc
first_fault-early (Some f) rest fault e = e

-- without one it is that of the rest
pub first_fault-late : (a rest : Option Fault) → a ≡ None → first_fault (a ∷ rest ∷ []) ≡ rest
first_fault-late None None e = refl
first_fault-late None (Some f) e = refl
first_fault-late (Some f) rest e = cc

-- a test through a function
pub list_any-map : {X Y : Type 0} (p : Y → Bool) (f : X → Y) (xs : List X) → list_any p (map f xs) ≡ list_any (λ x. p (f x)) xs
list_any-map p f [] = refl
list_any-map p f (x ∷ xs) = ap (λ b. p (f x) || b) (list_any-map p f xs)

-- the check of the cells from a place on is that of the cell there and then that of the rest
cells_at : (kinds : List Kind) (row : Row) (i : ℕ) (d : Kind) (c : Cell) → i < length kinds → Some c ≡ slice_get row i → check_cells (drop i kinds) (drop i row) ≡ check_cells (get_or kinds i d ∷ drop (i + 1) kinds) (c ∷ drop (i + 1) row)
cells_at kinds row i d c g e =
    let shorter = slice_get_within row i c (sym e) in
    let there = get_or_from_slice_get row i c c (sym e) in
    λ j. check_cells (drop_at kinds i d (get_or kinds i d) g refl j) (drop_at row i c c shorter (sym there) j)

-- a cell that fits leaves the check of the rest
pub check_cells-fit : (kinds : List Kind) (row : Row) (i : ℕ) (d : Kind) (c : Cell) → i < length kinds → Some c ≡ slice_get row i → None ≡ check_cell (get_or kinds i d) c → check_cells (drop (i + 1) kinds) (drop (i + 1) row) ≡ check_cells (drop i kinds) (drop i row)
check_cells-fit kinds row i d c g e fits = sym (cells_at kinds row i d c g e ∙ first_fault-late _ (check_cells (drop (i + 1) kinds) (drop (i + 1) row)) (sym fits))

-- a cell that does not fit is the answer
pub check_cells-fault : (kinds : List Kind) (row : Row) (i : ℕ) (d : Kind) (c : Cell) (fault : Fault) → i < length kinds → Some c ≡ slice_get row i → Some fault ≡ check_cell (get_or kinds i d) c → check_cells (drop i kinds) (drop i row) ≡ Some fault
check_cells-fault kinds row i d c fault g e fits = cells_at kinds row i d c g e ∙ first_fault-early _ (check_cells (drop (i + 1) kinds) (drop (i + 1) row)) fault (sym fits)

-- the search of the place ends where the test passes
position_from-hit : {X Y : Type 0} (p : Y → Bool) (f : X → Y) (xs : List X) (i : ℕ) (x : X) → i < length xs → x ≡ get_or xs i x → p (f x) ≡ true → position_from p i (map f (drop i xs)) ≡ Some i
position_from-hit p f xs i x h e hit =
    let rest = position_from p (i + 1) (map f (drop (i + 1) xs)) in
    ap (λ ys. position_from p i (map f ys)) (drop_at xs i x x h e) ∙ ap (λ b. cond b (Some i) rest) hit

-- the first place whose element passes is found
pub position-hit : {X Y : Type 0} (p : Y → Bool) (f : X → Y) (xs : List X) (ys : List Y) (i : ℕ) (x : X) → map f xs ≡ ys → position_from p i (map f (drop i xs)) ≡ position_from p 0 (map f xs) → i < length xs → x ≡ get_or xs i x → p (f x) ≡ true → Some i ≡ position p ys
position-hit p f xs ys i x seen walked h e hit =
    sym (position_from-hit p f xs i x h e hit) ∙ walked ∙ sym (position_from-zero p (map f xs)) ∙ ap (position p) seen

-- and none where no element is left
pub position-none : {X Y : Type 0} (p : Y → Bool) (f : X → Y) (xs : List X) (ys : List Y) (i : ℕ) → map f xs ≡ ys → position_from p i (map f (drop i xs)) ≡ position_from p 0 (map f xs) → length xs ≤ i → None ≡ position p ys
position-none p f xs ys i seen walked h =
    sym (ap (λ zs. position_from p i (map f zs)) (drop_all i xs h)) ∙ walked ∙ sym (position_from-zero p (map f xs)) ∙ ap (position p) seen

-- the lemma on a test through a function
pub ruleset through = (list_any-map)
