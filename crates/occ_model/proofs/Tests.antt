-- Truth values, and lists that are tested element by element.
use Rattle.std.proofs.Common.{◌≡◌, Bool, true, false, not, ◌&&◌, ◌||◌, refl, ap, ◌∙◌}

pub or_false : (a b : Bool) → (a || b) ≡ false → (a ≡ false) × (b ≡ false)
or_false true b e = cc
or_false false b e = (refl, e)

pub both_false : (a b : Bool) → a ≡ false → b ≡ false → (a || b) ≡ false
both_false a b p q = ap (λ x. x || b) p ∙ q

pub and_true : (a b : Bool) → (a && b) ≡ true → (a ≡ true) × (b ≡ true)
and_true true b e = (refl, e)
and_true false b e = cc

pub both_true : (a b : Bool) → a ≡ true → b ≡ true → (a && b) ≡ true
both_true a b p q = ap (λ x. x && b) p ∙ q

pub or_left : (a b : Bool) → a ≡ true → (a || b) ≡ true
or_left a b p = ap (λ x. x || b) p

pub or_right : (a b : Bool) → b ≡ true → (a || b) ≡ true
or_right true b p = refl
or_right false b p = p

pub not_false : (a : Bool) → not a ≡ false → a ≡ true
not_false true e = refl
not_false false e = cc

pub clash : {A : Type 0} (b : Bool) → b ≡ true → b ≡ false → A
clash b p q = cc

pub decided : (b : Bool) {P : Type 0} → (b ≡ true → P) → (b ≡ false → P) → P
decided true f g = f refl
decided false f g = g refl
