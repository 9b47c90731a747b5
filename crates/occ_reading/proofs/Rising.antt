-- Entries that come in the order of their keys.
use Rattle.std.proofs.Common.{ℕ, ◌+◌, length, ◌≡◌, Bool, true, false, ◌&&◌, T, List, ◌∷◌, ◌++◌, Option, Some, None, refl, sym, ap, subst, ◌∙◌, []}
use Rattle.occ_reading.proofs.Common.{Equal, FinMap, Greater, IfSome, IsTotalOrder, Less, Ordering, below_all, by_order, count_more, empty, entries, entries-insert, entries_sorted, insert, is_lt, is_sorted, len-empty, len-entries, nil_from_length, ordering_reverse, put}

pub first : (a b : Bool) → T (a && b) → T a
first true b p = tt
first false b p = p

pub second : (a b : Bool) → T (a && b) → T b
second true b p = p
second false b p = absurd p

pub less : (o : Ordering) → T (is_lt o) → o ≡ Less
less Less p = refl
less Equal p = absurd p
less Greater p = absurd p

above : {K : Type 0} (R : K → K → Ordering) (total : IsTotalOrder R) (x y : K) → R x y ≡ Less → R y x ≡ Greater
above R total x y h = total.antisymm y x ∙ ap ordering_reverse h

module _ {K X : Type 0} where
  -- the key of the last entry, if there is one
  abbrev pub LastIs : Option K → List (K × X) → Type 0
  LastIs None es = es ≡ []
  LastIs (Some key) es = (front : List (K × X)) × (value : X) × (es ≡ front ++ (key, value) ∷ [])

  module _ (R : K → K → Ordering) (total : IsTotalOrder R) where
    below_last : (x key : K) (front : List (K × X)) (value : X) → T (below_all R x (front ++ (key, value) ∷ [])) → R x key ≡ Less
    below_last x key [] value h = less _ (first _ _ h)
    below_last x key (e ∷ es) value h = below_last x key es value (second _ _ h)

    put_above : (key k : K) (v value : X) (front : List (K × X)) → T (is_sorted R (front ++ (key, value) ∷ [])) → R key k ≡ Less → put R k v (front ++ (key, value) ∷ []) ≡ (front ++ (key, value) ∷ []) ++ (k, v) ∷ []
    put_above key k v value [] h lt =
        ap (λ o. by_order o ((k, v) ∷ (key, value) ∷ []) ((key, v) ∷ []) ((key, value) ∷ (k, v) ∷ [])) (above R total key k lt)
    put_above key k v value (e ∷ es) h lt =
        let rest = es ++ (key, value) ∷ [] in
        let under : R e.0 k ≡ Less = total.trans e.0 key k (below_last e.0 key es value (first _ _ h)) lt in
        ap (λ o. by_order o ((k, v) ∷ e ∷ rest) ((e.0, v) ∷ rest) (e ∷ put R k v rest)) (above R total e.0 k under)
        ∙ ap (λ (l : List (K × X)). e ∷ l) (put_above key k v value es (second _ _ h) lt)

    -- an entry behind the last one goes last
    pub put_last : (last : Option K) (es : List (K × X)) (k : K) (v : X) → T (is_sorted R es) → LastIs last es → IfSome last (λ key. R key k ≡ Less) → put R k v es ≡ es ++ (k, v) ∷ []
    put_last None es k v sorted is lt = ap (put R k v) is ∙ ap (λ (l : List (K × X)). l ++ (k, v) ∷ []) (sym is)
    put_last (Some key) es k v sorted is lt =
        ap (put R k v) is.2 ∙ put_above key k v is.1 is.0 (subst (λ (l : List (K × X)). T (is_sorted R l)) is.2 sorted) lt ∙ ap (λ (l : List (K × X)). l ++ (k, v) ∷ []) (sym is.2)

    pub insert_last : (last : Option K) (m : FinMap R X) (k : K) (v : X) → LastIs last (entries m) → IfSome last (λ key. R key k ≡ Less) → entries (insert m k v) ≡ entries m ++ (k, v) ∷ []
    insert_last last m k v is lt = entries-insert total m k v ∙ put_last last (entries m) k v (entries_sorted m) is lt

-- so many entries, of which the last one has this key, if there is one
pub record SoFar {K X : Type 0} {R : K → K → Ordering} (last : Option K) (count : ℕ) (m : FinMap R X) : Type 0 where
  pub number : length (entries m) ≡ count
  pub ends : LastIs last (entries m)

pub no_entries : {K X : Type 0} {R : K → K → Ordering} (m : FinMap R X) → m ≡ empty → entries m ≡ []
no_entries {X = X} {R = R} m none = ap entries none ∙ nil_from_length _ (sym (len-entries empty) ∙ len-empty R X)

pub none_yet : {K X : Type 0} {R : K → K → Ordering} (m : FinMap R X) → m ≡ empty → SoFar None 0 m
none_yet m none = let e = no_entries m none in record { number = ap length e; ends = e }

-- one more entry, behind the last one
pub record Added {K X : Type 0} {R : K → K → Ordering} (count : ℕ) (m new : FinMap R X) (k : K) (v : X) : Type 0 where
  pub more : entries new ≡ entries m ++ (k, v) ∷ []
  pub so_far : SoFar (Some k) (count + 1) new

pub added : {K X : Type 0} {R : K → K → Ordering} (total : IsTotalOrder R) (last : Option K) (count : ℕ) (m new : FinMap R X) (k : K) (v : X) → SoFar last count m → IfSome last (λ key. R key k ≡ Less) → new ≡ insert m k v → Added count m new k v
added {R = R} total last count m new k v so_far lt is =
    let more = ap entries is ∙ insert_last R total last m k v so_far.ends lt in
    record { more = more; so_far = record { number = count_more (entries m) (entries new) (k, v) count more so_far.number; ends = (entries m, v, more) } }
