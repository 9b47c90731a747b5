-- What a question asks for, by the tests that the code makes.
use Rattle.std.proofs.Common.{◌≡◌, ℕ, ◌&&◌, nat_eq, Option, refl, ap, ◌∙◌}
use Rattle.std.specs.declared.cmp.Ordering.{Ordering}
use Rattle.std.specs.declared.cmp.Ordering.TheVariants.{Less, Equal, Greater}
use Rattle.std.specs.Ordering.{eq_by_cmp, is_eq, nat_cmp, ordering_then}
use Rattle.std.specs.Cmp.{unsigned_tied}
use Rattle.occ_types.specs.Key.{Key, key_cmp}
use Rattle.occ_types.specs.Object.{object_cmp}
use Rattle.occ_types.specs.Question.{One, Span, asks, is_from, is_below}
use Rattle.occ_types.specs.Same.{key_same}

-- one order and then another tie where both do
then_is_eq : (r s : Ordering) → is_eq (ordering_then r s) ≡ (is_eq r && is_eq s)
then_is_eq Less s = refl
then_is_eq Equal s = refl
then_is_eq Greater s = refl

-- a single key asks for the object of its table and key
pub asks-One : (t u : ℕ) (k l : Key) → asks (One t k) (u, l) ≡ (nat_eq t u && key_same k l)
unfolding asks
asks-One t u k l = then_is_eq (nat_cmp t u) (key_cmp k l) ∙ ap (λ b. b && key_same k l) (unsigned_tied t u)

-- two objects tie where their tables and their keys do
pub object_tied : (t u : ℕ) (k l : Key) → eq_by_cmp object_cmp (t, k) (u, l) ≡ (nat_eq t u && key_same k l)
object_tied t u k l = then_is_eq (nat_cmp t u) (key_cmp k l) ∙ ap (λ b. b && key_same k l) (unsigned_tied t u)

-- a range asks for the keys of its table between its ends
pub asks-Span : (t u : ℕ) (a b : Option Key) (l : Key) → asks (Span t a b) (u, l) ≡ (nat_eq u t && (is_from a l && is_below b l))
unfolding asks
asks-Span t u a b l = refl

-- the lemmas above
pub ruleset questions_asked = (asks-One, asks-Span)

-- the lemma on objects
pub ruleset objects_tied = (object_tied)
