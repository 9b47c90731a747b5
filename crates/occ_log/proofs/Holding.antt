-- The set of held sessions, from what is kept of each.
use Rattle.std.proofs.Common.{◌≡◌, ℕ, zero, suc, ◌+◌, ◌-◌, ◌<◌, Bool, true, false, cond, not, ◌&&◌, ◌||◌, List, [], ◌∷◌, get_or, length, Option, None, Some, refl, sym, ap, ◌∙◌, arith, is_some, nat_le, slice_get, slice_set, ◌==◌}
use Rattle.occ_log.proofs.Common.{Hold, Slot, and_true, get_or-set_at, get_or-set_other, get_or_from_slice_get, get_or_head, get_or_tail, held_from, leb-true, nat_cmp, nat_cmp-IsAntisymmetric, nat_cmp_total, nat_tests, unsigned_tied}
use Rattle.std.specs.FinSet as sets

abbrev pub idle_slot : Slot
idle_slot = record { last = 0; hold = None }

-- whether the session at a place is held
abbrev pub is_held_at : List Slot → ℕ → Bool
is_held_at slots place = is_some (get_or slots place idle_slot).hold

pub held-is : (slots : List Slot) (place : ℕ) (slot : Slot) → slice_get slots place ≡ Some slot → is_held_at slots place ≡ is_some slot.hold
held-is slots place slot at = ap (λ (s : Slot). is_some s.hold) (get_or_from_slice_get slots place slot idle_slot at)

-- the set has the sessions from the first number on that are held
holds : (n q : ℕ) (slots : List Slot) → sets.contains (held_from n slots) q ≡ (nat_le n q && is_held_at slots (q - n))
holds n q [] = sets.contains-empty nat_cmp q ∙ grind arith
holds n q (slot ∷ slots) = go (is_some slot.hold) refl (holds (suc n) q slots)
  where
    go : (b : Bool) → is_some slot.hold ≡ b → sets.contains (held_from (suc n) slots) q ≡ (nat_le (suc n) q && is_held_at slots (q - suc n))
        → sets.contains (cond b (sets.insert (held_from (suc n) slots) n) (held_from (suc n) slots)) q ≡ (nat_le n q && is_held_at (slot ∷ slots) (q - n))
    go true e again = sets.contains-insert nat_cmp_total (held_from (suc n) slots) n q ∙ (λ i. unsigned_tied q n i || again i) ∙ grind (arith, nat_tests, get_or_head, get_or_tail)
    go false e again = again ∙ grind (arith, nat_tests, get_or_head, get_or_tail)

-- no session below the first number is in the set
pub below_first : (n q : ℕ) (slots : List Slot) → q < n → sets.contains (held_from n slots) q ≡ false
below_first n q slots less = holds n q slots ∙ grind (arith, nat_tests)

pub contains-held : (n : ℕ) (slots : List Slot) (place : ℕ) → sets.contains (held_from n slots) (n + place) ≡ is_held_at slots place
contains-held n slots place =
    let far : n + place - n ≡ place = omega arith in
    holds n (n + place) slots ∙ ap (λ k. nat_le n (n + place) && is_held_at slots k) far ∙ grind (arith, nat_tests)

is_held_at-set : (slots : List Slot) (place : ℕ) (slot : Slot) (q : ℕ) → place < length slots → is_held_at (slice_set slots place slot) q ≡ cond (q == place) (is_some slot.hold) (is_held_at slots q)
is_held_at-set slots place slot q less = grind (arith, nat_tests, get_or-set_at, get_or-set_other)

-- a session is held, by its place
pub held-hold : (n : ℕ) (slots : List Slot) (place : ℕ) (slot : Slot) → place < length slots → is_some slot.hold ≡ true → sets.insert (held_from n slots) (n + place) ≡ held_from n (slice_set slots place slot)
held-hold n slots place slot less is = sets.same_set nat_cmp_total nat_cmp-IsAntisymmetric _ _ (λ q.
    sets.contains-insert nat_cmp_total (held_from n slots) (n + place) q ∙ (λ i. unsigned_tied q (n + place) i || holds n q slots i)
    ∙ grind (arith, nat_tests, is_held_at-set slots place slot (q - n) less) ∙ sym (holds n q (slice_set slots place slot)))

-- a session is let go
pub held-free : (n : ℕ) (slots : List Slot) (place : ℕ) (slot : Slot) → place < length slots → is_some slot.hold ≡ false → sets.remove (held_from n slots) (n + place) ≡ held_from n (slice_set slots place slot)
held-free n slots place slot less is = sets.same_set nat_cmp_total nat_cmp-IsAntisymmetric _ _ (λ q.
    sets.contains-remove nat_cmp_total (held_from n slots) (n + place) q ∙ (λ i. not (unsigned_tied q (n + place) i) && holds n q slots i)
    ∙ grind (arith, nat_tests, is_held_at-set slots place slot (q - n) less) ∙ sym (holds n q (slice_set slots place slot)))

-- the place of a session that is held
pub record HeldPlace (slots : List Slot) (number : ℕ) : Type 0 where
  pub place : ℕ
  pub session : Slot
  pub at : Hold
  pub there : slice_get slots place ≡ Some session
  pub held : session.hold ≡ Some at
  pub is_number : number ≡ suc place

find_held : (slots : List Slot) (place : ℕ) → is_held_at slots place ≡ true → (slot : Slot) × (at : Hold) × (slice_get slots place ≡ Some slot) × (slot.hold ≡ Some at)
find_held [] place is = cc
find_held (slot ∷ slots) zero is = go slot.hold refl is
  where
    go : (h : Option Hold) → slot.hold ≡ h → is_some h ≡ true → (s : Slot) × (at : Hold) × (Some slot ≡ Some s) × (s.hold ≡ Some at)
    go None e is = cc
    go (Some at) e is = (slot, at, refl, e)
find_held (slot ∷ slots) (suc place) is = find_held slots place is

pub held_place : (slots : List Slot) (number : ℕ) → sets.contains (held_from 1 slots) number ≡ true → HeldPlace slots number
held_place slots number held =
    let parts = and_true (nat_le 1 number) (is_held_at slots (number - 1)) (sym (holds 1 number slots) ∙ held) in
    let up = leb-true 1 number parts.0 in
    let found = find_held slots (number - 1) parts.1 in
    record { place = number - 1; session = found.0; at = found.1; there = found.2; held = found.3; is_number = omega arith }
