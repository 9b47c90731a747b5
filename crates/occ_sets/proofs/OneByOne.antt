-- The elements of a list from a place on, one after another.
use Rattle.std.proofs.Common.{◌≡◌, ℕ, zero, suc, ◌+◌, List, [], ◌∷◌, None, Some, drop, sym, arith}
use Rattle.std.proofs.lemmas.List.{drop_all}
use Rattle.std.proofs.lemmas.Option.{slice_get_within, get_or_from_slice_get}
use Rattle.std.specs.Prelude.{slice_get}
use Rattle.occ_types.proofs.Walks.{drop_at}

-- none is left from a place on where no element stands
pub left-none : {X : Type 0} (xs : List X) (i : ℕ) → slice_get xs i ≡ None → drop i xs ≡ []
left-none [] i e = drop_all i [] (omega arith)
left-none (x ∷ xs) zero e = cc
left-none (x ∷ xs) (suc i) e = left-none xs i e

-- the element at a place is the first that is left
pub left-next : {X : Type 0} (xs : List X) (i : ℕ) (x : X) → slice_get xs i ≡ Some x → drop i xs ≡ x ∷ drop (i + 1) xs
left-next xs i x e = drop_at xs i x x (slice_get_within xs i x e) (sym (get_or_from_slice_get xs i x x e))
