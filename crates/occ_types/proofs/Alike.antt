-- Tests of equality, seen through a function.
use Rattle.std.proofs.Common.{◌≡◌, ℕ, ◌∙◌, sym, nat_eq, Bool, ◌&&◌, List, [], ◌∷◌, refl, ap}
use Rattle.std.specs.Prelude.{map}
use Rattle.std.specs.Ordering.{on}
use Rattle.std.specs.Cmp.Lexicographic.{pointwise, texts_ties}
use Rattle.occ_types.specs.Key.{Key, Text}
use Rattle.occ_types.specs.KeyPart.{KeyPart}
use Rattle.occ_types.specs.KeyPart as parts
use Rattle.occ_types.specs.Same.{key_same, part_same}

-- a test of two lists through a function is that of what it makes of them
pub pointwise-on : {X Y : Type 0} (f : X → Y) (E : Y → Y → Bool) (xs ys : List X) → pointwise (on f E) xs ys ≡ pointwise E (map f xs) (map f ys)
pointwise-on f E [] [] = refl
pointwise-on f E [] (y ∷ ys) = refl
pointwise-on f E (x ∷ xs) [] = refl
pointwise-on f E (x ∷ xs) (y ∷ ys) = ap (λ rest. E (f x) (f y) && rest) (pointwise-on f E xs ys)

-- two text keys are equal exactly where their bytes are
pub same_texts : {k l : Key} (s t : List ℕ) → k ≡ Text s → l ≡ Text t → pointwise nat_eq s t ≡ key_same k l
same_texts s t p q = texts_ties s t ∙ (λ i. key_same (sym p i) (sym q i))

-- two text parts are equal exactly where their bytes are
pub same_text_parts : {k l : KeyPart} (s t : List ℕ) → k ≡ parts.Text s → l ≡ parts.Text t → pointwise nat_eq s t ≡ part_same k l
same_text_parts s t p q = texts_ties s t ∙ (λ i. part_same (sym p i) (sym q i))
