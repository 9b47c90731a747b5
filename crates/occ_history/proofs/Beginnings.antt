-- Beginnings of one list, and what lists keep of a party's own.
use Rattle.std.proofs.Common.{◌≡◌, ◌⊎◌, inl, inr, ⊎_elim, Bool, true, false, cond, List, [], ◌∷◌, ◌++◌, refl, ap, sym, ◌∙◌, append_assoc}
use Rattle.std.proofs.lemmas.List.{append-nil}
use Rattle.std.proofs.lemmas.List.Elements.{filter-append}
use Rattle.std.specs.List.{filter}
use mathlib.Core.List.{IsPrefix}

-- each list begins with itself
pub prefix_self : {A : Type 0} (xs : List A) → IsPrefix xs xs
prefix_self xs = ([], append-nil xs)

pub prefix_more : {A : Type 0} (xs ys : List A) → IsPrefix xs (xs ++ ys)
prefix_more xs ys = (ys, refl)

pub prefix_trans : {A : Type 0} (xs ys zs : List A) → IsPrefix xs ys → IsPrefix ys zs → IsPrefix xs zs
prefix_trans xs ys zs p q = (p.0 ++ q.0, sym (append_assoc xs p.0 q.0) ∙ (ap (λ w. w ++ q.0) p.1 ∙ q.1))

abbrev head_or : {A : Type 0} → A → List A → A
head_or d [] = d
head_or d (x ∷ xs) = x

abbrev tail_of : {A : Type 0} → List A → List A
tail_of [] = []
tail_of (x ∷ xs) = xs

heads : {A : Type 0} (x y : A) (xs ys : List A) → x ∷ xs ≡ y ∷ ys → x ≡ y
heads x y xs ys e = ap (head_or x) e

tails : {A : Type 0} (x y : A) (xs ys : List A) → x ∷ xs ≡ y ∷ ys → xs ≡ ys
tails x y xs ys e = ap tail_of e

-- of two beginnings of one list, one begins the other
pub prefix_either : {A : Type 0} (xs ys zs : List A) → IsPrefix xs zs → IsPrefix ys zs → IsPrefix xs ys ⊎ IsPrefix ys xs
prefix_either [] ys zs p q = inl (ys, refl)
prefix_either (x ∷ xs) [] zs p q = inr (x ∷ xs, refl)
prefix_either (x ∷ xs) (y ∷ ys) [] p q = let e = p.1 in absurd (cc e)
prefix_either (x ∷ xs) (y ∷ ys) (z ∷ zs) p q =
    let e = p.1 in
    let f = q.1 in
    let same : x ≡ y = heads x z (xs ++ p.0) zs e ∙ sym (heads y z (ys ++ q.0) zs f) in
    ⊎_elim
    (λ r. inl (r.0, λ i. same i ∷ r.1 i))
    (λ r. inr (r.0, λ i. sym same i ∷ r.1 i))
    (prefix_either xs ys zs (p.0, tails x z (xs ++ p.0) zs e) (q.0, tails y z (ys ++ q.0) zs f))

-- what stands beside a beginning that ends the same
pub cancel_nil : {A : Type 0} (xs ys : List A) → xs ++ ys ≡ xs → ys ≡ []
cancel_nil [] ys e = e
cancel_nil (x ∷ xs) ys e = cancel_nil xs ys (tails x x (xs ++ ys) xs e)

-- Between a beginning and a whole that keep the same, each beginning keeps the same.
pub filter_between : {A : Type 0} (test : A → Bool) (xs ys zs : List A) → IsPrefix xs ys → IsPrefix ys zs → filter test xs ≡ filter test zs → filter test xs ≡ filter test ys
filter_between test xs ys zs p q same =
    let a : filter test ys ≡ filter test xs ++ filter test p.0 = ap (filter test) (sym p.1) ∙ filter-append test xs p.0 in
    let b : filter test zs ≡ filter test ys ++ filter test q.0 = ap (filter test) (sym q.1) ∙ filter-append test ys q.0 in
    let c : filter test xs ++ (filter test p.0 ++ filter test q.0) ≡ filter test xs = sym (append_assoc (filter test xs) (filter test p.0) (filter test q.0)) ∙ ap (λ l. l ++ filter test q.0) (sym a) ∙ sym b ∙ sym same in
    let none : filter test p.0 ++ filter test q.0 ≡ [] = cancel_nil (filter test xs) (filter test p.0 ++ filter test q.0) c in
    sym (a ∙ ap (λ l. filter test xs ++ l) (first_nil (filter test p.0) (filter test q.0) none) ∙ append-nil (filter test xs))
  where
    first_nil : {A : Type 0} (xs ys : List A) → xs ++ ys ≡ [] → xs ≡ []
    first_nil [] ys e = refl
    first_nil (x ∷ xs) ys e = absurd (cc e)

-- A narrower test keeps of what a wider one kept as much as of all.
pub filter_narrow : {A : Type 0} (wide narrow : A → Bool) → ((x : A) → narrow x ≡ true → wide x ≡ true) → (xs : List A) → filter narrow (filter wide xs) ≡ filter narrow xs
filter_narrow wide narrow within [] = refl
filter_narrow wide narrow within (x ∷ xs) = go (wide x) refl (filter_narrow wide narrow within xs)
  where
    unkept : (n : Bool) → narrow x ≡ n → wide x ≡ false → filter narrow xs ≡ cond n (x ∷ filter narrow xs) (filter narrow xs)
    unkept false e not_wide = refl
    unkept true e not_wide = let w = within x e in absurd (cc (w, not_wide))

    go : (w : Bool) → wide x ≡ w → filter narrow (filter wide xs) ≡ filter narrow xs
        → filter narrow (cond w (x ∷ filter wide xs) (filter wide xs)) ≡ cond (narrow x) (x ∷ filter narrow xs) (filter narrow xs)
    go true e ih = ap (λ l. cond (narrow x) (x ∷ l) l) ih
    go false e ih = ih ∙ unkept (narrow x) refl e

-- what doesn't pass adds nothing, and what passes comes last
pub filter_unkept : {A : Type 0} (test : A → Bool) (xs : List A) (x : A) → test x ≡ false → filter test (xs ++ x ∷ []) ≡ filter test xs
filter_unkept test xs x e = filter-append test xs (x ∷ []) ∙ ap (λ b. filter test xs ++ cond b (x ∷ []) []) e ∙ append-nil (filter test xs)

pub filter_kept : {A : Type 0} (test : A → Bool) (xs : List A) (x : A) → test x ≡ true → filter test (xs ++ x ∷ []) ≡ filter test xs ++ x ∷ []
filter_kept test xs x e = filter-append test xs (x ∷ []) ∙ ap (λ b. filter test xs ++ cond b (x ∷ []) []) e
