-- Writes in two parts: the rows that are put, and then the deletions.
use Rattle.std.proofs.Common.{◌≡◌, ◌<◌, ◌≤◌, ◌+◌, ℕ, zero, suc, add-one, Bool, true, false, ◌||◌, cond, List, [], ◌∷◌, length, drop, drop-cons, drop_of_length-le, Option, None, Some, refl, sym, ap, subst, ◌∙◌, arith, slice_get}
use Rattle.occ_book.proofs.Common.{slice_get_within, get_or_from_slice_get, AllByRecursion, IsDistinct, Object, asks, Row, WritesOnce, objects, State, Write, put, apply, meets_question, target, set, same, apply-put, ArePlaced, if_put, puts, if_deletion, deletions}

-- the element at a place, and what is left behind it
pub drop-at : {X : Type 0} (xs : List X) (i : ℕ) (x : X) → slice_get xs i ≡ Some x → drop i xs ≡ x ∷ drop (i + 1) xs
drop-at xs i x e = rw add-one (drop-cons xs i x (slice_get_within xs i x e) ∙ ap (λ y. y ∷ drop (suc i) xs) (get_or_from_slice_get xs i x x e))

-- the rows that are put from a place on, by the write there
pub puts-at : (writes : List Write) (place : ℕ) (object : Object) (row : Option Row) → Some (object, row) ≡ slice_get writes place → puts (drop place writes) ≡ if_put object row (puts (drop (place + 1) writes))
puts-at writes place object row is = ap puts (drop-at writes place (object, row) (sym is))

-- and the deletions
pub deletions-at : (writes : List Write) (place : ℕ) (object : Object) (row : Option Row) → Some (object, row) ≡ slice_get writes place → deletions (drop place writes) ≡ if_deletion object row (deletions (drop (place + 1) writes))
deletions-at writes place object row is = ap deletions (drop-at writes place (object, row) (sym is))

-- where no row is put, a write puts none
pub none-put : (object : Object) (row : Option Row) (others : List Write) → if_put object row others ≡ [] → row ≡ None
none-put object None others e = refl
none-put object (Some row) others e = cc

-- nothing is left behind the end
pub slice_get-none : {X : Type 0} (xs : List X) (i : ℕ) → None ≡ slice_get xs i → length xs ≤ i
slice_get-none [] i e = omega arith
slice_get-none (x ∷ xs) zero e = cc
slice_get-none (x ∷ xs) (suc i) e = let h = slice_get-none xs i e in omega arith

pub left-none : {X : Type 0} (xs : List X) (i : ℕ) → None ≡ slice_get xs i → drop (i + 1) xs ≡ drop i xs
left-none xs i e =
    let past = slice_get-none xs i e in
    drop_of_length-le xs (omega arith) ∙ sym (drop_of_length-le xs past)

-- the write at a place is of a table that is there
pub placed-at : (tables : ℕ) (writes : List Write) (place : ℕ) (object : Object) (row : Option Row) → ArePlaced tables writes → Some (object, row) ≡ slice_get writes place → object.0 < tables
placed-at tables [] place object row are is = cc
placed-at tables (write ∷ writes) zero object row are is =
    let e : write ≡ (object, row) = cc in
    subst (λ (w : Write). w.0.0 < tables) e are.0
placed-at tables (write ∷ writes) (suc place) object row are is = placed-at tables writes place object row are.1 is

-- where no row is put, none is put from a place on
pub puts_drop : (place : ℕ) (writes : List Write) → puts writes ≡ [] → puts (drop place writes) ≡ []
puts_drop zero writes none = none
puts_drop (suc place) [] none = none
puts_drop (suc place) (write ∷ writes) none = puts_drop place writes (rest write.0 write.1 (puts writes) none)
  where
    rest : (object : Object) (row : Option Row) (others : List Write) → if_put object row others ≡ [] → others ≡ []
    rest object None others e = e
    rest object (Some row) others e = cc

-- one more write of a table that is there
pub placed_set : (tables : ℕ) (writes : List Write) (object : Object) (row : Option Row) → ArePlaced tables writes → object.0 < tables → ArePlaced tables (set writes object row)
placed_set tables [] object row are here = (here, tt)
placed_set tables (write ∷ writes) object row are here =
    by (same object write.0) (set writes object row) (placed_set tables writes object row are.1 here)
  where
    by : (b : Bool) (others : List Write) → ArePlaced tables others → ArePlaced tables (cond b ((write.0, row) ∷ writes) (write ∷ others))
    by true others rest = are
    by false others rest = (are.0, rest)

-- no row that is put is one of an object that no write writes
meets-puts : (writes : List Write) (object : Object) → AllByRecursion (λ other. same object other ≡ false) (objects writes) → meets_question (puts writes) (target (object, None)) ≡ false
unfolding asks
meets-puts [] object apart = refl
meets-puts (write ∷ writes) object apart = by write.0 write.1 (puts writes) apart.0 (meets-puts writes object apart.1)
  where
    by : (other : Object) (row : Option Row) (others : List Write) → same object other ≡ false → meets_question others (target (object, None)) ≡ false → meets_question (if_put other row others) (target (object, None)) ≡ false
    by other None others here rest = rest
    by other (Some row) others here rest = λ j. here j || rest j

-- the rows that are put and then the deletions are all writes, where no object is written twice
pub apply-parts : (state : State) (writes : List Write) → WritesOnce writes → apply (apply state (puts writes)) (deletions writes) ≡ apply state writes
unfolding IsDistinct
apply-parts state [] once = refl
apply-parts state (write ∷ writes) once =
    by write.0 write.1 (puts writes) (deletions writes) (λ s. apply s writes) (meets-puts writes write.0 once.0) (λ s. apply-parts s writes once.1)
  where
    by : (object : Object) (row : Option Row) (rows gone : List Write) (all : State → State) → meets_question rows (target (object, None)) ≡ false → ((s : State) → apply (apply s rows) gone ≡ all s) → apply (apply state (if_put object row rows)) (if_deletion object row gone) ≡ all (put state (object, row))
    by object None rows gone all apart later =
        ap (λ s. apply s gone) (sym (apply-put state rows (object, None) apart)) ∙ later (put state (object, None))
    by object (Some row) rows gone all apart later = later (put state (object, Some row))
