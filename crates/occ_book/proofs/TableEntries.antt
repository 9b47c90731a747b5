-- The entries of one table in the order of their keys, and what a state that has them answers to a range.
use Rattle.std.proofs.Common.{◌≡◌, ℕ, Bool, true, false, not, ◌&&◌, cond, List, [], ◌∷◌, map, filter, Option, None, Some, Ordering, Less, Equal, Greater, is_gt, is_le, refl, sym, ap, subst, ◌∙◌}
use Rattle.occ_book.proofs.Common.{AllByRecursion, IsStrictlySortedBy, IsStrictlySortedBy-filter, IsDistinct-from_sorted, Contains-from_lookup, lookup-from_Contains, lookup-filter-keys, keys_of, lookup, on, ordering_reverse, Equal-is, unsigned_Decides, get, Key, Num, KeyText, Pair, key_cmp, key_cmp_total, key_cmp-IsAntisymmetric, key_same, key_same-decides, key_same_equiv, InRange, Span, asks-Span, Row, key_of, rows_of, answer_of_entries, State, Rows, answer, answers_range, is_within, is_backward, entries_within}
use Rattle.occ_book.specs.Table.{row_under, rows_within}
use Rattle.occ_types.specs.declared.keys.Key as code_key
use Rattle.occ_types.specs.declared.keys.Key.TheVariants as keys

-- no key lies in a range that runs backwards
greater : (o : Ordering) → is_gt o ≡ true → o ≡ Greater
greater Less e = cc
greater Equal e = cc
greater Greater e = refl

not_both : (r s : Ordering) → (r ≡ Greater → s ≡ Greater) → (is_le s && not (is_le r)) ≡ false
not_both Less Less h = refl
not_both Less Equal h = refl
not_both Less Greater h = refl
not_both Equal Less h = refl
not_both Equal Equal h = refl
not_both Equal Greater h = refl
not_both Greater Less h = let e = h refl in cc
not_both Greater Equal h = let e = h refl in cc
not_both Greater Greater h = refl

turned : (a b : Key) → key_cmp a b ≡ Greater → key_cmp b a ≡ Less
turned a b e = key_cmp_total.antisymm b a ∙ ap ordering_reverse e

pub backward-key : (a b : Option Key) (k : Key) → is_backward a b ≡ true → is_within a b k ≡ false
backward-key None b k e = cc
backward-key (Some a) None k e = cc
backward-key (Some a) (Some b) k e = not_both (key_cmp b k) (key_cmp a k) (λ g.
    key_cmp_total.antisymm a k
    ∙ ap ordering_reverse (key_cmp_total.trans k b a (turned b k g) (turned a b (greater (key_cmp a b) e))))

-- a filter stands before a function or behind it
pub kept-filtered : {X Y : Type 0} (f : X → Y) (p : Y → Bool) (es : List X) → map f (filter (λ e. p (f e)) es) ≡ filter p (map f es)
kept-filtered f p [] = refl
kept-filtered f p (e ∷ es) =
    elim (p (f e)) as (λ b. map f (cond b (e ∷ filter (λ e. p (f e)) es) (filter (λ e. p (f e)) es)) ≡ cond b (f e ∷ filter p (map f es)) (filter p (map f es))) [
      | true ↦ ap (λ fs. f e ∷ fs) (kept-filtered f p es)
      | false ↦ kept-filtered f p es
    ]

one_of_two : (x y : Option Row) → ((row : Row) → x ≡ Some row → y ≡ Some row) → ((row : Row) → y ≡ Some row → x ≡ Some row) → x ≡ y
one_of_two None None f g = refl
one_of_two None (Some row) f g = g row refl
one_of_two (Some row) y f g = sym (f row refl)

-- the rows that a whole table is answered are those that the state has under its keys
pub row-answered : (state : State) (t : ℕ) (rows : List (Key × Row)) → Rows rows ≡ answer (Span t None None) state → (k : Key) → get state (t, k) ≡ lookup (key_same k) rows
row-answered state t rows is k =
    let range = answers_range state t None None in
    let answers : Rows rows ≡ Rows range.0 = is ∙ range.1.answered in
    let same : rows ≡ range.0 = cc in
    let every : InRange None None k = record { from = tt; below = tt } in
    one_of_two _ _
    (λ row at. lookup-from_Contains key_same_equiv k row range.0 (IsDistinct-from_sorted key_cmp (keys_of range.0) range.1.in_order) ((range.1.exactly k row).1 (every, at)))
    (λ row at. ((range.1.exactly k row).0 (Contains-from_lookup (λ x y. (key_same-decides x y).0) k row range.0 at)).1)
    ∙ ap (lookup (key_same k)) (sym same)

module _ {Z : Type 0} where
  -- each key is that of the code's
  pub code_of : (k : Key) → (x : code_key.Key Z) × (key_of x ≡ k)
  code_of (Num n) = (keys.Num n, refl)
  code_of (KeyText s) = (keys.Text s, refl)
  code_of (Pair a b) = (keys.Pair (a, b), refl)

  -- the row under a key
  abbrev pub row_at : List (code_key.Key Z × Row) → Key → Option Row
  row_at es k = lookup (λ x. key_same k (key_of x)) es

  pub row_at-plain : (es : List (code_key.Key Z × Row)) (k : Key) → lookup (key_same k) (rows_of es) ≡ row_at es k
  row_at-plain [] k = refl
  row_at-plain (e ∷ es) k = ap (cond (key_same k (key_of e.0)) (Some e.1)) (row_at-plain es k)

  -- all entries lie within a range without ends
  pub all_within : (es : List (code_key.Key Z × Row)) → entries_within None None es ≡ es
  all_within [] = refl
  all_within (e ∷ es) = ap (λ fs. e ∷ fs) (all_within es)

  -- rows in order are the answer to a range where they are what a state has within it
  answer-is : (state : State) (t : ℕ) (a b : Option Key) (fs : List (code_key.Key Z × Row)) → IsStrictlySortedBy (on key_of key_cmp) (keys_of fs) → ((k : Key) → row_at fs k ≡ cond (is_within a b k) (get state (t, k)) None) → answer (Span t a b) state ≡ Rows (rows_of fs)
  unfolding answer
  answer-is state t a b fs sorted is =
      ap Rows (answer_of_entries (Span t a b) fs state (record {
        at = λ key. is (key_of key)
            ∙ ap (λ c. cond c (get state (t, key_of key)) None) (sym (asks-Span t t a b (key_of key) ∙ ap (λ c. c && is_within a b (key_of key)) ((unsigned_Decides t t).1 refl)));
      }) sorted)

  -- what lies within a range, of the entries of a table
  pub answer-within : (state : State) (t : ℕ) (a b : Option Key) (es : List (code_key.Key Z × Row)) → IsStrictlySortedBy (on key_of key_cmp) (keys_of es) → ((k : Key) → get state (t, k) ≡ row_at es k) → answer (Span t a b) state ≡ Rows (rows_of (entries_within a b es))
  answer-within state t a b es ordered is =
      let within = λ (x : code_key.Key Z). is_within a b (key_of x) in
      let sorted = IsStrictlySortedBy-filter (on key_of key_cmp) within (keys_of es) ordered in
      answer-is state t a b (entries_within a b es)
      (subst (IsStrictlySortedBy (on key_of key_cmp)) (sym (kept-filtered (λ (e : code_key.Key Z × Row). e.0) within es)) sorted) (λ k.
      lookup-filter-keys (λ x. key_same k (key_of x)) within (is_within a b k) (λ x e. ap (is_within a b) (sym (key_cmp-IsAntisymmetric k (key_of x) ((Equal-is (key_cmp k (key_of x))).0 e)))) es
      ∙ ap (λ r. cond (is_within a b k) r None) (sym (is k)))

module _ {Z : Type 0} where
  -- keys in order are plain keys in order, and the other way round
  all-plain : (k : Key) (es : List (code_key.Key Z × Row)) → AllByRecursion (λ y. key_cmp k (key_of y) ≡ Less) (keys_of es) → AllByRecursion (λ y. key_cmp k y ≡ Less) (keys_of (rows_of es))
  all-plain k [] all = tt
  all-plain k (e ∷ es) all = (all.0, all-plain k es all.1)

  all-code : (k : Key) (es : List (code_key.Key Z × Row)) → AllByRecursion (λ y. key_cmp k y ≡ Less) (keys_of (rows_of es)) → AllByRecursion (λ y. key_cmp k (key_of y) ≡ Less) (keys_of es)
  all-code k [] all = tt
  all-code k (e ∷ es) all = (all.0, all-code k es all.1)

  pub sorted-plain : (es : List (code_key.Key Z × Row)) → IsStrictlySortedBy (on key_of key_cmp) (keys_of es) → IsStrictlySortedBy key_cmp (keys_of (rows_of es))
  unfolding IsStrictlySortedBy
  sorted-plain [] sorted = tt
  sorted-plain (e ∷ es) sorted = (all-plain (key_of e.0) es sorted.0, sorted-plain es sorted.1)

  sorted-code : (es : List (code_key.Key Z × Row)) → IsStrictlySortedBy key_cmp (keys_of (rows_of es)) → IsStrictlySortedBy (on key_of key_cmp) (keys_of es)
  unfolding IsStrictlySortedBy
  sorted-code [] sorted = tt
  sorted-code (e ∷ es) sorted = (all-code (key_of e.0) es sorted.0, sorted-code es sorted.1)

-- plain rows under keys of the code
abbrev coded : List (Key × Row) → List (code_key.Key ⊥ × Row)
coded [] = []
coded (e ∷ es) = ((code_of {Z = ⊥} e.0).0, e.1) ∷ coded es

coded-is : (rows : List (Key × Row)) → rows_of (coded rows) ≡ rows
coded-is [] = refl
coded-is (e ∷ es) = λ i. ((code_of {Z = ⊥} e.0).1 i, e.1) ∷ coded-is es i

-- what lies within a range, of the rows of a table
pub answer-rows : (state : State) (t : ℕ) (a b : Option Key) (rows : List (Key × Row)) → IsStrictlySortedBy key_cmp (keys_of rows) → ((k : Key) → get state (t, k) ≡ row_under rows k) → answer (Span t a b) state ≡ Rows (rows_within a b rows)
answer-rows state t a b rows sorted is =
    let es = coded rows in
    answer-within state t a b es
    (sorted-code es (subst (λ rs. IsStrictlySortedBy key_cmp (keys_of rs)) (sym (coded-is rows)) sorted))
    (λ k. is k ∙ ap (λ rs. row_under rs k) (sym (coded-is rows)) ∙ row_at-plain es k)
    ∙ ap Rows (kept-filtered (λ (e : code_key.Key ⊥ × Row). (key_of e.0, e.1)) (λ e. is_within a b e.0) es ∙ ap (rows_within a b) (coded-is rows))

-- the answer where no row is in the range

pub answer-backward : (state : State) (t : ℕ) (a b : Option Key) → is_backward a b ≡ true → answer (Span t a b) state ≡ Rows []
unfolding IsStrictlySortedBy
answer-backward state t a b e =
    answer-is {Z = ⊥} state t a b [] tt (λ k. sym (ap (λ c. cond c (get state (t, k)) None) (backward-key a b k e)))

pub answer-nowhere : (state : State) (t : ℕ) (a b : Option Key) → ((k : Key) → get state (t, k) ≡ None) → answer (Span t a b) state ≡ Rows []
unfolding IsStrictlySortedBy
answer-nowhere state t a b none = answer-within {Z = ⊥} state t a b [] tt none
