-- The laws of a map in pages: what it finds, what a row that is put or taken out does, which rows lie in a range, and that the keys ascend.
use Rattle.std.proofs.Common.{◌≡◌, ◌<◌, ◌≤◌, ◌-◌, ℕ, zero, suc, Bool, true, false, ◌&&◌, cond, nat_eq, nat_lt, nat_le, List, [], ◌∷◌, ◌++◌, take, drop, Option, None, Some, Less, Equal, Greater, refl, sym, ap, ◌∙◌, arith}
use Rattle.std.specs.Ordering.{nat_cmp, match_ordering}
use Rattle.std.specs.Cmp.{nat_cmp_is}
use Rattle.std.proofs.lemmas.Bool.Decides.{nat_tests}
use Rattle.occ_pages.specs.Entries.{is_from, is_below, is_within, AllBelow, AllFrom, Ascends, get, put, without, within}
use Rattle.occ_pages.specs.Pages.{begins_with, IsStart, IsEnd}

-- tests of numbers
apart_above : (a b : ℕ) → b < a → nat_eq a b ≡ false
apart_above a b h = grind (arith, nat_tests)

apart_below : (a b : ℕ) → a < b → nat_eq a b ≡ false
apart_below a b h = grind (arith, nat_tests)

tied : (a : ℕ) → nat_eq a a ≡ true
tied a = grind (arith, nat_tests)

differ : (a b : ℕ) → nat_eq a b ≡ false → a ≤ b → suc a ≤ b
differ a b e h = grind (arith, nat_tests)

less : (a b : ℕ) → a < b → nat_cmp a b ≡ Less
less a b h = sym (nat_cmp_is a b Less h)

equal : (a : ℕ) → nat_cmp a a ≡ Equal
equal a = sym (nat_cmp_is a a Equal refl)

greater : (a b : ℕ) → b < a → nat_cmp a b ≡ Greater
greater a b h = sym (nat_cmp_is a b Greater h)

both_false : (b : Bool) → (b && false) ≡ false
both_false true = refl
both_false false = refl

take-nothing : {X : Type 0} (n : ℕ) → ◌≡◌ {A = List X} (take n []) []
take-nothing zero = refl
take-nothing (suc n) = refl

drop-nothing : {X : Type 0} (n : ℕ) → ◌≡◌ {A = List X} (drop n []) []
drop-nothing zero = refl
drop-nothing (suc n) = refl

module _ {T : Type 0} where
  pub below-append : (key : ℕ) (xs ys : List (ℕ × T)) → AllBelow key xs → AllBelow key ys → AllBelow key (xs ++ ys)
  below-append key [] ys p q = q
  below-append key (x ∷ xs) ys p q = (p.0, below-append key xs ys p.1 q)

  pub from-append : (key : ℕ) (xs ys : List (ℕ × T)) → AllFrom key xs → AllFrom key ys → AllFrom key (xs ++ ys)
  from-append key [] ys p q = q
  from-append key (x ∷ xs) ys p q = (p.0, from-append key xs ys p.1 q)

  pub from-first : (key : ℕ) (xs ys : List (ℕ × T)) → AllFrom key (xs ++ ys) → AllFrom key xs
  from-first key [] ys p = tt
  from-first key (x ∷ xs) ys p = (p.0, from-first key xs ys p.1)

  pub from-last : (key : ℕ) (xs ys : List (ℕ × T)) → AllFrom key (xs ++ ys) → AllFrom key ys
  from-last key [] ys p = p
  from-last key (x ∷ xs) ys p = from-last key xs ys p.1

  pub from-weaker : (key other : ℕ) (es : List (ℕ × T)) → other ≤ key → AllFrom key es → AllFrom other es
  from-weaker key other [] h p = tt
  from-weaker key other (e ∷ es) h p = (omega (arith, p.0), from-weaker key other es h p.1)

  pub ascends-first : (xs ys : List (ℕ × T)) → Ascends (xs ++ ys) → Ascends xs
  ascends-first [] ys p = tt
  ascends-first (x ∷ xs) ys p = (from-first (suc x.0) xs ys p.0, ascends-first xs ys p.1)

  pub ascends-last : (xs ys : List (ℕ × T)) → Ascends (xs ++ ys) → Ascends ys
  ascends-last [] ys p = p
  ascends-last (x ∷ xs) ys p = ascends-last xs ys p.1

  -- where entries in order stand before one that is not above a key, they are below the key
  pub below-first : (key : ℕ) (xs ys : List (ℕ × T)) (e : ℕ × T) (zs : List (ℕ × T)) → Ascends (xs ++ (ys ++ e ∷ zs)) → e.0 ≤ key → AllBelow key xs
  below-first key [] ys e zs p h = tt
  below-first key (x ∷ xs) ys e zs p h =
      let over = (from-last (suc x.0) ys (e ∷ zs) (from-last (suc x.0) xs (ys ++ e ∷ zs) p.0)).0 in
      (omega (arith, over), below-first key xs ys e zs p.1 h)

  -- a first key that is another one is above it
  pub from-next : (key : ℕ) (es : List (ℕ × T)) → Ascends es → AllFrom key es → begins_with key es ≡ false → AllFrom (suc key) es
  from-next key [] p q e = tt
  from-next key (x ∷ es) p q e =
      let above : suc key ≤ x.0 = differ key x.0 (swapped key x.0 e) q.0 in
      (above, from-weaker (suc x.0) (suc key) es (omega arith) p.0)
    where
      swapped : (a b : ℕ) → nat_eq b a ≡ false → nat_eq a b ≡ false
      swapped a b e = grind (arith, nat_tests)

  -- what is found, where the entries are split at a key
  pub get-split : (key : ℕ) (xs ys : List (ℕ × T)) → AllBelow key xs → get (xs ++ ys) key ≡ get ys key
  get-split key [] ys p = refl
  get-split key (x ∷ xs) ys p =
      ap (λ b. cond b (Some x.1) (get (xs ++ ys) key)) (apart_above key x.0 p.0) ∙ get-split key xs ys p.1

  get-above : (key : ℕ) (es : List (ℕ × T)) → AllFrom (suc key) es → get es key ≡ None
  get-above key [] p = refl
  get-above key (x ∷ es) p =
      ap (λ b. cond b (Some x.1) (get es key)) (apart_below key x.0 (omega (arith, p.0))) ∙ get-above key es p.1

  pub get-absent : (key : ℕ) (xs ys : List (ℕ × T)) → AllBelow key xs → AllFrom (suc key) ys → get (xs ++ ys) key ≡ None
  get-absent key xs ys p q = get-split key xs ys p ∙ get-above key ys q

  pub get-present : (key : ℕ) (xs : List (ℕ × T)) (row : T) (ys : List (ℕ × T)) → AllBelow key xs → get (xs ++ (key, row) ∷ ys) key ≡ Some row
  get-present key xs row ys p =
      get-split key xs ((key, row) ∷ ys) p ∙ ap (λ b. cond b (Some row) (get ys key)) (tied key)

  -- a row that is put under a new key
  pub put-new : (key : ℕ) (row : T) (xs ys : List (ℕ × T)) → AllBelow key xs → AllFrom (suc key) ys → put (xs ++ ys) key row ≡ xs ++ (key, row) ∷ ys
  put-new key row [] [] p q = refl
  put-new key row [] (y ∷ ys) p q =
      ap (λ o. match_ordering o ((key, row) ∷ y ∷ ys) ((y.0, row) ∷ ys) (y ∷ put ys key row)) (less key y.0 (omega (arith, q.0)))
  put-new key row (x ∷ xs) ys p q =
      ap (λ o. match_ordering o ((key, row) ∷ x ∷ (xs ++ ys)) ((x.0, row) ∷ (xs ++ ys)) (x ∷ put (xs ++ ys) key row)) (greater key x.0 p.0)
      ∙ ap (λ es. x ∷ es) (put-new key row xs ys p.1 q)

  -- and under one that is there
  pub put-old : (key : ℕ) (was row : T) (xs ys : List (ℕ × T)) → AllBelow key xs → put (xs ++ (key, was) ∷ ys) key row ≡ xs ++ (key, row) ∷ ys
  put-old key was row [] ys p =
      ap (λ o. match_ordering o ((key, row) ∷ (key, was) ∷ ys) ((key, row) ∷ ys) ((key, was) ∷ put ys key row)) (equal key)
  put-old key was row (x ∷ xs) ys p =
      ap (λ o. match_ordering o ((key, row) ∷ x ∷ (xs ++ (key, was) ∷ ys)) ((x.0, row) ∷ (xs ++ (key, was) ∷ ys)) (x ∷ put (xs ++ (key, was) ∷ ys) key row)) (greater key x.0 p.0)
      ∙ ap (λ es. x ∷ es) (put-old key was row xs ys p.1)

  -- a row that is taken out
  pub without-old : (key : ℕ) (was : T) (xs ys : List (ℕ × T)) → AllBelow key xs → without (xs ++ (key, was) ∷ ys) key ≡ xs ++ ys
  without-old key was [] ys p = ap (λ b. cond b ys ((key, was) ∷ without ys key)) (tied key)
  without-old key was (x ∷ xs) ys p =
      ap (λ b. cond b (xs ++ (key, was) ∷ ys) (x ∷ without (xs ++ (key, was) ∷ ys) key)) (apart_above key x.0 p.0)
      ∙ ap (λ es. x ∷ es) (without-old key was xs ys p.1)

  without-above : (key : ℕ) (es : List (ℕ × T)) → AllFrom (suc key) es → without es key ≡ es
  without-above key [] p = refl
  without-above key (x ∷ es) p =
      ap (λ b. cond b es (x ∷ without es key)) (apart_below key x.0 (omega (arith, p.0))) ∙ ap (λ fs. x ∷ fs) (without-above key es p.1)

  -- and of a key that isn't there
  pub without-absent : (key : ℕ) (xs ys : List (ℕ × T)) → AllBelow key xs → AllFrom (suc key) ys → without (xs ++ ys) key ≡ xs ++ ys
  without-absent key [] ys p q = without-above key ys q
  without-absent key (x ∷ xs) ys p q =
      ap (λ b. cond b (xs ++ ys) (x ∷ without (xs ++ ys) key)) (apart_above key x.0 p.0)
      ∙ ap (λ es. x ∷ es) (without-absent key xs ys p.1 q)

  pub without-none : (key : ℕ) (es : List (ℕ × T)) → get es key ≡ None → without es key ≡ es
  without-none key [] e = refl
  without-none key (x ∷ es) e = by (nat_eq key x.0) refl (without-none key es)
    where
      by : (b : Bool) → nat_eq key x.0 ≡ b → (get es key ≡ None → without es key ≡ es) → without (x ∷ es) key ≡ x ∷ es
      by true is rest =
          let some : Some x.1 ≡ None = sym (ap (λ b. cond b (Some x.1) (get es key)) is) ∙ e in
          cc
      by false is rest =
          ap (λ b. cond b es (x ∷ without es key)) is ∙ ap (λ fs. x ∷ fs) (rest (sym (ap (λ b. cond b (Some x.1) (get es key)) is) ∙ e))

  -- the keys ascend after each of these
  pub ascends-put : (key : ℕ) (row : T) (xs ys : List (ℕ × T)) → AllBelow key xs → AllFrom (suc key) ys → Ascends (xs ++ ys) → Ascends (xs ++ (key, row) ∷ ys)
  ascends-put key row [] ys p q a = (q, a)
  ascends-put key row (x ∷ xs) ys p q a = (
    from-append (suc x.0) xs ((key, row) ∷ ys) (from-first (suc x.0) xs ys a.0) (omega (arith, p.0), from-last (suc x.0) xs ys a.0),
    ascends-put key row xs ys p.1 q a.1,
  )

  pub ascends-set : (key : ℕ) (was row : T) (xs ys : List (ℕ × T)) → Ascends (xs ++ (key, was) ∷ ys) → Ascends (xs ++ (key, row) ∷ ys)
  ascends-set key was row [] ys a = a
  ascends-set key was row (x ∷ xs) ys a = (
    from-append (suc x.0) xs ((key, row) ∷ ys) (from-first (suc x.0) xs ((key, was) ∷ ys) a.0) (from-last (suc x.0) xs ((key, was) ∷ ys) a.0),
    ascends-set key was row xs ys a.1,
  )

  pub ascends-without : (e : ℕ × T) (xs ys : List (ℕ × T)) → Ascends (xs ++ e ∷ ys) → Ascends (xs ++ ys)
  ascends-without e [] ys a = a.1
  ascends-without e (x ∷ xs) ys a = (
    from-append (suc x.0) xs ys (from-first (suc x.0) xs (e ∷ ys) a.0) (from-last (suc x.0) xs (e ∷ ys) a.0).1,
    ascends-without e xs ys a.1,
  )

  -- the entries of a range
  pub within-append : (lower upper : Option ℕ) (xs ys : List (ℕ × T)) → within lower upper (xs ++ ys) ≡ within lower upper xs ++ within lower upper ys
  within-append lower upper [] ys = refl
  within-append lower upper (x ∷ xs) ys =
      elim (is_within lower upper x.0) as (λ b. cond b (x ∷ within lower upper (xs ++ ys)) (within lower upper (xs ++ ys)) ≡ cond b (x ∷ within lower upper xs) (within lower upper xs) ++ within lower upper ys) [
        | true ↦ ap (λ es. x ∷ es) (within-append lower upper xs ys)
        | false ↦ within-append lower upper xs ys
      ]

  pub within-below : (lower : ℕ) (upper : Option ℕ) (es : List (ℕ × T)) → AllBelow lower es → within (Some lower) upper es ≡ []
  within-below lower upper [] p = refl
  within-below lower upper (x ∷ es) p =
      ap (λ b. cond (b && is_below upper x.0) (x ∷ within (Some lower) upper es) (within (Some lower) upper es)) (short lower x.0 p.0)
      ∙ within-below lower upper es p.1
    where
      short : (a b : ℕ) → b < a → nat_le a b ≡ false
      short a b h = grind (arith, nat_tests)

  pub within-from : (lower : Option ℕ) (upper : ℕ) (es : List (ℕ × T)) → AllFrom upper es → within lower (Some upper) es ≡ []
  within-from lower upper [] p = refl
  within-from lower upper (x ∷ es) p =
      ap (λ b. cond b (x ∷ within lower (Some upper) es) (within lower (Some upper) es)) (ap (λ b. is_from lower x.0 && b) (long x.0 upper p.0) ∙ both_false (is_from lower x.0))
      ∙ within-from lower upper es p.1
    where
      long : (a b : ℕ) → b ≤ a → nat_lt a b ≡ false
      long a b h = grind (arith, nat_tests)

  kept : (lower upper : Option ℕ) (e : ℕ × T) (es rest : List (ℕ × T)) → is_from lower e.0 ≡ true → is_below upper e.0 ≡ true → within lower upper es ≡ rest → within lower upper (e ∷ es) ≡ e ∷ rest
  kept lower upper e es rest p q is =
      (λ i. cond (p i && q i) (e ∷ is i) (is i))

  from_start : (lower : Option ℕ) (e : ℕ × T) (es : List (ℕ × T)) → IsStart lower (e ∷ es) 0 → (is_from lower e.0 ≡ true) × IsStart lower es 0
  from_start None e es is = (refl, refl)
  from_start (Some end) e es is = (long end e.0 is.from.0, record { below = tt; from = is.from.1 })
    where
      long : (a b : ℕ) → a ≤ b → nat_le a b ≡ true
      long a b h = grind (arith, nat_tests)

  below_end : (upper : Option ℕ) (e : ℕ × T) (es : List (ℕ × T)) (place : ℕ) → IsEnd upper (e ∷ es) (suc place) → (is_below upper e.0 ≡ true) × IsEnd upper es place
  below_end None e es place is = (refl, omega (arith, is))
  below_end (Some end) e es place is = (short e.0 end is.below.0, record { below = is.below.1; from = is.from })
    where
      short : (a b : ℕ) → a < b → nat_lt a b ≡ true
      short a b h = grind (arith, nat_tests)

  -- the entries of a range stand from the place of its start on and before that of its end
  pub within-places : (lower upper : Option ℕ) (es : List (ℕ × T)) (start end : ℕ) → IsStart lower es start → IsEnd upper es end → within lower upper es ≡ take (end - start) (drop start es)
  within-places lower upper [] start end p q = sym (ap (take (end - start)) (drop-nothing start) ∙ take-nothing (end - start))
  within-places None upper (e ∷ es) (suc start) end p q = absurd (omega (arith, p))
  within-places (Some lower) upper (e ∷ es) (suc start) zero p q =
      let none : 0 - suc start ≡ 0 = omega arith in
      before_all lower upper e es q ∙ sym (ap (λ n. take n (drop start es)) none)
    where
      before_all : (lower : ℕ) (upper : Option ℕ) (e : ℕ × T) (es : List (ℕ × T)) → IsEnd upper (e ∷ es) 0 → within (Some lower) upper (e ∷ es) ≡ []
      before_all lower None e es q = absurd (omega (arith, q))
      before_all lower (Some upper) e es q = within-from (Some lower) upper (e ∷ es) q.from
  within-places (Some lower) upper (e ∷ es) (suc start) (suc end) p q =
      let here : within (Some lower) upper (e ∷ []) ≡ [] = within-below lower upper (e ∷ []) (p.below.0, tt) in
      let less : suc end - suc start ≡ end - start = omega arith in
      within-append (Some lower) upper (e ∷ []) es
      ∙ ap (λ fs. fs ++ within (Some lower) upper es) here
      ∙ within-places (Some lower) upper es start end (record { below = p.below.1; from = p.from }) (below_end upper e es end q).1
      ∙ sym (ap (λ n. take n (drop start es)) less)
  within-places lower None (e ∷ es) zero zero p q = absurd (omega (arith, q))
  within-places lower (Some upper) (e ∷ es) zero zero p q =
      let none : 0 - 0 ≡ 0 = omega arith in
      within-from lower upper (e ∷ es) q.from ∙ sym (ap (λ n. take n (e ∷ es)) none)
  within-places lower upper (e ∷ es) zero (suc end) p q =
      let all : suc end - 0 ≡ suc end = omega arith in
      let less : end - 0 ≡ end = omega arith in
      let first = from_start lower e es p in
      let last = below_end upper e es end q in
      kept lower upper e es (take end es) first.0 last.0 (within-places lower upper es zero end first.1 last.1 ∙ ap (λ n. take n es) less)
      ∙ sym (ap (λ n. take n (e ∷ es)) all)
