-- Facts that stand or fall together as a loop goes on, and what is made of a choice.
use Rattle.std.proofs.Common.{◌≡◌, ℕ, ◌+◌, ◌<◌, Bool, true, false, cond, List, ◌∷◌, length, get_or, drop, Option, Some, refl, sym, subst}
use Rattle.std.specs.Iterator.{YieldsFirstBy}
use Rattle.occ_book.proofs.Common.{drop_at}

-- each of two facts gives the other
abbrev pub Iff : Type 0 → Type 0 → Type 0
Iff P Q = (P → Q) × (Q → P)

pub via : {P Q R : Type 0} → Iff P Q → Iff Q R → Iff P R
via a b = (λ p. b.0 (a.0 p), λ r. a.1 (b.1 r))

-- a fact at equal values
pub along : {X : Type 0} (P : X → Type 0) (a b : X) → a ≡ b → Iff (P a) (P b)
along P a b e = (λ p. subst P e p, λ p. subst P (sym e) p)

-- a fact that stands with one on what is left of a list, by the element that comes next
pub at_next : {X : Type 0} {Q : Type 0} (P : List X → Type 0) (xs : List X) (i : ℕ) (x : X) → i < length xs → x ≡ get_or xs i x → Iff Q (P (drop i xs)) → Iff Q (P (x ∷ drop (i + 1) xs))
at_next P xs i x h at so_far = via so_far (along P _ _ (drop_at xs i x x h at))

-- what is made of a choice is a choice of what is made of both
pub of_cond : {X Y : Type 0} (f : X → Y) (b : Bool) (x y : X) → f (cond b x y) ≡ cond b (f x) (f y)
of_cond f true x y = refl
of_cond f false x y = refl

-- what an iterator has left begins with what it yields
pub next_left : {S A B : Type 0} (view : A → B) (left : S → List B) (before after : S) (yielded : Option A) (x : A) → yielded ≡ Some x → YieldsFirstBy view left before yielded after → left before ≡ view x ∷ left after
next_left view left before after yielded x is step = subst (λ item. YieldsFirstBy view left before item after) is step
