-- Two iterators that are compared by `eq`, and the lists that they give.
use Rattle.std.proofs.Common.{◌≡◌, ℕ, suc, ◌≤◌, Bool, true, false, ◌&&◌, List, [], ◌∷◌, length, Option, None, Some, refl, sym, ap, ◌∙◌, arith, map, slice_get, Decides, MatchOption, IfSome, option_map, Bor}
use Rattle.occ_audit.proofs.Common.{AllZip, YieldsList, YieldsList-end, Decides-and, Key, Row, key_same, key_same-decides, row_same, row_same-decides, clash, map-id}
use Rattle.std.specs.Iterator.{YieldsThen}
use Rattle.std.proofs.lemmas.Iterator.Consumers.{nth_from_yields_List}
use Rattle.std.proofs.lemmas.Option.{slice_get-map}
use Rattle.occ_book.specs.KeyRefs.{key_lent}
use Rattle.occ_book.specs.declared.key_refs.KeyRef as refs

-- whatever was answered, as many items came before as there are
reached : {A : Type 0} (n : ℕ) (o : Option A) → MatchOption o (n ≤ n) (λ _. n ≡ n)
reached n None = omega arith
reached n (Some x) = refl

module _ {A B C : Type 0} (v : A → B) (f : B → C) (eq : A → A → Bool) (same : (x y : A) → Decides (eq x y) (f (v x) ≡ f (v y))) where
  -- items that are equal one by one are equal lists
  zipped : (ps qs : List A) → AllZip (λ x y. eq x y ≡ true) ps qs → (length ps ≡ length qs) × (map f (map v ps) ≡ map f (map v qs))
  zipped [] [] h = (refl, refl)
  zipped [] (b ∷ qs) h = absurd h
  zipped (a ∷ ps) [] h = absurd h
  zipped (a ∷ ps) (b ∷ qs) h =
      let others = zipped ps qs h.1 in
      (ap suc others.0, λ i. (same a b).0 h.0 i ∷ others.1 i)

  -- what two iterators answered at last
  abbrev Ends : Option A → Option A → Bool → Type 0
  Ends o p r = MatchOption o (MatchOption p (r ≡ true) (λ _. r ≡ false)) (λ x. (r ≡ false) × IfSome p (λ y. eq x y ≡ false))

  -- it decides whether the lists are equal, which are so where both end, and only where they agree at that place
  ended : (o p : Option A) (r : Bool) (Same : Type 0) → Ends o p r → (o ≡ None → p ≡ None → Same) → (Same → option_map (λ x. f (v x)) o ≡ option_map (λ x. f (v x)) p) → Decides r Same
  ended None None r Same is equal agree = (λ _. equal refl refl, λ _. is)
  ended None (Some y) r Same is equal agree = (λ t. clash r t is, λ t. let e : None ≡ Some (f (v y)) = agree t in cc)
  ended (Some x) None r Same is equal agree = (λ t. clash r t is.0, λ t. let e : Some (f (v x)) ≡ None = agree t in cc)
  ended (Some x) (Some y) r Same is equal agree =
      (λ t. clash r t is.0, λ t. let e : Some (f (v x)) ≡ Some (f (v y)) = agree t in clash (eq x y) ((same x y).1 (cc)) is.1)

  -- the next item of an iterator of a list is the list's element there
  next : {S : Type 0} {steps : S → Option A → S → Type 0} {s : S} {xs : List B} → YieldsList steps v s xs → (ps : List A) (o : Option A) (u : S) → YieldsThen steps s ps o u → option_map (λ x. f (v x)) o ≡ slice_get (map f xs) (length ps)
  next {xs = xs} road ps o u y =
      through o ∙ ap (option_map f) (nth_from_yields_List o u (length ps) (ps, y, reached (length ps) o) road) ∙ sym (slice_get-map f xs (length ps))
    where
      through : (o : Option A) → option_map (λ x. f (v x)) o ≡ option_map f (option_map v o)
      through None = refl
      through (Some x) = refl

  -- what `eq` says of two iterators, of which the second was made so (`ComparesItemsByEq`)
  abbrev Compared : {S T : Type 0} → (S → Option A → S → Type 0) → (T → Option A → T → Type 0) → S → (T → Type 0) → Bool → Type 0
  Compared {S} {T} steps others s Made r = (t : T) × (ps : List A) × (qs : List A) × (o : Option A) × (p : Option A) × (u : S) × (w : T)
      × Made t × YieldsThen steps s ps o u × YieldsThen others t qs p w × AllZip (λ x y. eq x y ≡ true) ps qs × Ends o p r

  -- it decides whether their lists are equal
  pub eq-decides : {S T : Type 0} {steps : S → Option A → S → Type 0} {others : T → Option A → T → Type 0} {s : S} {Made : T → Type 0} {xs ys : List B} (r : Bool) → Compared steps others s Made r → YieldsList steps v s xs → ((t : T) → Made t → YieldsList others v t ys) → Decides r (map f ys ≡ map f xs)
  eq-decides {xs = xs} {ys = ys} r (t, ps, qs, o, p, u, w, is, left, right, zip, last) road other_road =
      let z = zipped ps qs zip in
      let other = other_road t is in
      ended o p r (map f ys ≡ map f xs) last
      (λ d e. sym (ap (map f) (sym (YieldsList-end road ps left.0 left.1 o u d left.2).0) ∙ z.1 ∙ ap (map f) (YieldsList-end other qs right.0 right.1 p w e right.2).0))
      (λ same. next road ps o u left ∙ (λ i. slice_get (sym same i) (z.0 i)) ∙ sym (next other qs p w right))

-- the plain key and row of those that are lent
abbrev pub row_lent : {Z : Type 0} → refs.KeyRef Z × Bor Row → Key × Row
row_lent e = (key_lent e.0, e.1.now)

-- the test of two lent keys and their rows
pub entries-decide : {Z : Type 0} (x y : refs.KeyRef Z × Bor Row) → Decides (key_same (key_lent x.0) (key_lent y.0) && row_same x.1.now y.1.now) (row_lent x ≡ row_lent y)
entries-decide x y =
    let d = Decides-and _ _ (key_same-decides (key_lent x.0) (key_lent y.0)) (row_same-decides x.1.now y.1.now) in (
      λ e. let f = d.0 e in λ i. (f.0 i, f.1 i),
      λ e. d.1 (ap (λ p. p.0) e, ap (λ p. p.1) e),
    )

-- lists that go through a function that changes nothing
pub plain-decides : {r : Bool} {X : Type 0} (xs ys : List X) → Decides r (map (λ x. x) ys ≡ map (λ x. x) xs) → Decides r (ys ≡ xs)
plain-decides xs ys d = (λ e. sym (map-id ys) ∙ d.0 e ∙ map-id xs, λ e. d.1 (map-id ys ∙ e ∙ sym (map-id xs)))
