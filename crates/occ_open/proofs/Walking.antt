-- The own write of an object, as it is found when all writes are gone over.
use Rattle.std.proofs.Common.{◌≡◌, ℕ, zero, suc, ◌+◌, ◌<◌, ◌≤◌, Bool, true, false, cond, List, [], ◌∷◌, Option, None, Some, drop, length, refl, sym, ap, ◌∙◌, add-one, arith}
use Rattle.std.proofs.lemmas.List.{drop_all}
use Rattle.std.specs.Option.{option_or}
use Rattle.std.specs.Ordering.{eq_by_cmp}
use Rattle.std.specs.Prelude.{slice_get}
use Rattle.occ_types.specs.Object.{Object, object_cmp}
use Rattle.occ_types.specs.Row.{Row}
use Rattle.occ_model.specs.State.{Write}
use Rattle.occ_model.specs.Overlay.{own}
use Rattle.occ_open.specs.OwnOne.{own_one}

own_either : (b : Bool) (row : Option Row) (rest : Option (Option Row)) → cond b (Some row) rest ≡ option_or (cond b (Some row) None) rest
own_either true row rest = refl
own_either false row rest = refl

-- the write at a place, and then those behind it
next_own : (writes : List Write) (object : Object) (place : ℕ) → place < length writes
    → own (drop place writes) object ≡ option_or (own_one (slice_get writes place) object) (own (drop (suc place) writes) object)
next_own [] object place within = absurd (omega (arith, within))
next_own (w ∷ ws) object zero within = own_either (eq_by_cmp object_cmp object w.0) w.1 (own ws object)
next_own (w ∷ ws) object (suc place) within = next_own ws object place (omega (arith, within))

-- one that is of the object is the own one
pub own_here : (writes : List Write) (object : Object) (place : ℕ) (row : Option Row) → place < length writes
    → Some row ≡ own_one (slice_get writes place) object → Some row ≡ own (drop place writes) object
own_here writes object place row within is =
    ap (λ o. option_or o (own (drop (suc place) writes) object)) is ∙ sym (next_own writes object place within)

-- and one that is not leaves the others
pub own_later : (writes : List Write) (object : Object) (place : ℕ) → place < length writes
    → None ≡ own_one (slice_get writes place) object → own (drop (place + 1) writes) object ≡ own (drop place writes) object
own_later writes object place within is =
    ap (λ k. own (drop k writes) object) (add-one place)
    ∙ ap (λ o. option_or o (own (drop (suc place) writes) object)) is ∙ sym (next_own writes object place within)

-- and none where no write is left
pub own_past : (writes : List Write) (object : Object) (place : ℕ) → length writes ≤ place → None ≡ own (drop place writes) object
own_past writes object place past = ap (λ (l : List Write). own l object) (sym (drop_all place writes past))
