-- A map that is gone over in the order of its keys, up to a first entry that isn't as it has to be.
use Rattle.std.proofs.Common.{◌≡◌, Bool, true, false, ◌⊎◌, inl, inr, cond, List, [], ◌∷◌, Option, None, Some, refl, sym, ap, subst, ◌∙◌, is_eq, Less}
use Rattle.std.specs.declared.cmp.Ordering.{Ordering}
use Rattle.std.specs.Cmp.{IsTotalOrder, Equal-is, tied_itself}
use Rattle.std.specs.FinMap.{IsAntisymmetric}
use Rattle.occ_book.proofs.Common.{AllByRecursion, keys_of, lookup, sorted_head, sorted_tail}
unfoldable use Rattle.occ_book.proofs.Common.{IsStrictlySortedBy}

module _ {X K V : Type 0} (cmp : X → X → Ordering) (total : IsTotalOrder cmp) (tie : IsAntisymmetric cmp) (view : K → X) (Agrees : X → V → Type 0) where
  -- what stands under a key
  abbrev pub found : List (K × V) → X → Option V
  found es x = lookup (λ k. is_eq (cmp x (view k))) es

  -- of the entries of a map these are left, and all others are as they have to be
  pub record Walked (whole left : List (K × V)) : Type 0 where
    pub ordered : IsStrictlySortedBy (λ a b. cmp (view a) (view b)) (keys_of left)
    pub kept : (x : X) (v : V) → found left x ≡ Some v → found whole x ≡ Some v
    pub done : (x : X) (v : V) → found whole x ≡ Some v → (found left x ≡ Some v) ⊎ Agrees x v

  same_key : (x y : X) → is_eq (cmp x y) ≡ true → x ≡ y
  same_key x y e = tie x y ((Equal-is (cmp x y)).0 e)

  below : (x : X) (es : List (K × V)) → AllByRecursion (λ y. cmp x (view y) ≡ Less) (keys_of es) → found es x ≡ None
  below x [] h = refl
  below x (e ∷ es) h = ap (λ r. cond (is_eq r) (Some e.1) (found es x)) h.0 ∙ below x es h.1

  pub walked-none : (whole left : List (K × V)) → left ≡ whole → IsStrictlySortedBy (λ a b. cmp (view a) (view b)) (keys_of whole) → Walked whole left
  walked-none whole left is ordered = record {
    ordered = subst (λ es. IsStrictlySortedBy (λ a b. cmp (view a) (view b)) (keys_of es)) (sym is) ordered;
    kept = λ x v e. ap (λ es. found es x) (sym is) ∙ e;
    done = λ x v e. inl (ap (λ es. found es x) is ∙ e);
  }

  module _ (whole more : List (K × V)) (e : K × V) (w : Walked whole (e ∷ more)) where
    -- nothing of what is left behind an entry stands under its key
    alone : found more (view e.0) ≡ None
    alone = below (view e.0) more (sorted_head _ e.0 (keys_of more) w.ordered)

    kept-more : (x : X) (v : V) (b : Bool) → is_eq (cmp x (view e.0)) ≡ b → (cond b (Some e.1) (found more x) ≡ Some v → found whole x ≡ Some v) → found more x ≡ Some v → found whole x ≡ Some v
    kept-more x v true t before f =
        let none = ap (found more) (same_key x (view e.0) t) ∙ alone in cc
    kept-more x v false t before f = before f

    done-more : (x : X) (v : V) (b : Bool) → is_eq (cmp x (view e.0)) ≡ b → Agrees (view e.0) e.1 → (cond b (Some e.1) (found more x) ≡ Some v) ⊎ Agrees x v → (found more x ≡ Some v) ⊎ Agrees x v
    done-more x v true t agrees (inl f) =
        let value : e.1 ≡ v = cc in
        inr (subst (λ y. Agrees y v) (sym (same_key x (view e.0) t)) (subst (Agrees (view e.0)) value agrees))
    done-more x v false t agrees (inl f) = inl f
    done-more x v true t agrees (inr a) = inr a
    done-more x v false t agrees (inr a) = inr a

    -- one entry more that is as it has to be
    pub walked-more : Agrees (view e.0) e.1 → Walked whole more
    walked-more agrees = record {
      ordered = sorted_tail _ e.0 (keys_of more) w.ordered;
      kept = λ x v. kept-more x v (is_eq (cmp x (view e.0))) refl (w.kept x v);
      done = λ x v f. done-more x v (is_eq (cmp x (view e.0))) refl agrees (w.done x v f);
    }

    -- the next entry stands in the map
    pub walked-here : found whole (view e.0) ≡ Some e.1
    walked-here = w.kept (view e.0) e.1 (ap (λ b. cond b (Some e.1) (found more (view e.0))) ((Equal-is (cmp (view e.0) (view e.0))).1 (tied_itself total (view e.0))))

    -- and all before it are as they have to be
    pub walked-to : (x : X) (v : V) → cmp x (view e.0) ≡ Less → found whole x ≡ Some v → Agrees x v
    walked-to x v less f = by (w.done x v f)
      where
        head : AllByRecursion (λ y. cmp (view e.0) (view y) ≡ Less) (keys_of more)
        head = sorted_head _ e.0 (keys_of more) w.ordered

        later : (es : List (K × V)) → AllByRecursion (λ y. cmp (view e.0) (view y) ≡ Less) (keys_of es) → AllByRecursion (λ y. cmp x (view y) ≡ Less) (keys_of es)
        later [] h = tt
        later (y ∷ ys) h = (total.trans x (view e.0) (view y.0) less h.0, later ys h.1)

        none : found (e ∷ more) x ≡ None
        none = below x (e ∷ more) (less, later more head)

        by : (found (e ∷ more) x ≡ Some v) ⊎ Agrees x v → Agrees x v
        by (inl g) = let nothing = none in cc
        by (inr a) = a

  -- all entries are as they have to be
  pub walked-all : (whole left : List (K × V)) → left ≡ [] → Walked whole left → (x : X) (v : V) → found whole x ≡ Some v → Agrees x v
  walked-all whole left nothing w x v f = by (w.done x v f)
    where
      by : (found left x ≡ Some v) ⊎ Agrees x v → Agrees x v
      by (inl g) =
          let none = ap (λ es. found es x) nothing in cc
      by (inr a) = a
