-- The rows of one table that are lent, seen as rows: what is found, what a write does, and what lies in a range.
use Rattle.std.proofs.Common.{◌≡◌, ℕ, suc, true, false, ◌&&◌, cond, nat_eq, List, [], ◌∷◌, ◌++◌, map, Option, None, Some, Ordering, Less, Equal, Greater, is_eq, is_gt, is_le, not, refl, sym, ap, subst, ◌∙◌, arith, BTreeMap, Bor, option_copied}
use Rattle.std.proofs.lemmas.Bool.Decides.{nat_tests}
use Rattle.std.proofs.lemmas.List.Sums.{fold-append}
use Rattle.std.specs.Cmp.{tied_itself}
use Rattle.std.specs.BTreeMap.{IsFromIterResult}
use Rattle.std.specs.Map.{update, update_all}
use Rattle.std.specs.Map.Iter.{deref_pair}
use Rattle.std.specs.Ordering.{nat_cmp, match_ordering}
use Rattle.std.specs.Range.Bound.{IsForward}
use Rattle.occ_types.specs.Key.{Num, Text as KeyText, Pair}
use Rattle.occ_types.specs.declared.keys.Key as code_key
use Rattle.occ_types.specs.declared.keys.Key.TheVariants as keys
use Rattle.occ_pages.specs.Entries as pages
use Rattle.occ_book.specs.Table.{IsOther, IsWritten, AreOthers, number_ends, numbers_within, rows_in}
use Rattle.occ_book.proofs.TableEntries.{backward-key, row_at}
use Rattle.occ_book.proofs.TableRanges.{rows-ordered, within-rows}
use Rattle.occ_book.proofs.TableWrites.{found-number, found-other, number-deleted, number-put}
use Rattle.occ_book.proofs.Undoing.{none_there}
use Rattle.occ_audit.proofs.Common.{AllByRecursion, Bound, IsStrictlySortedBy, Key, Row, code_of, entries_between, end_of, entries_within, eq_by_cmp_equiv, is_backward, is_within, kept-filtered, key_cmp, key_cmp_total, key_of, key_same, keys_of, lookup, lower_bound, nat_cmp_total, of_cond, on, row_under, rows_within, upper_bound}
use Rattle.occ_audit.specs.LentRows.{at_number, IsForwardTo, IsNumberRange, rows_lent}

-- what is found under a number among rows that are lent
pub found-at_number : (es : List (ℕ × Bor Row)) (n : ℕ) → option_copied (pages.get es n) ≡ pages.get (map at_number es) n
found-at_number [] n = refl
found-at_number (e ∷ es) n =
    of_cond option_copied (nat_eq n e.0) (Some e.1) (pages.get es n) ∙ ap (cond (nat_eq n e.0) (Some e.1.now)) (found-at_number es n)

-- a row that is put, and one that is taken out
put-at_number : (es : List (ℕ × Bor Row)) (n : ℕ) (row : Bor Row) → map at_number (pages.put es n row) ≡ pages.put (map at_number es) n row.now
put-at_number [] n row = refl
put-at_number (e ∷ es) n row = by (nat_cmp n e.0) (put-at_number es n row)
  where
    by : (o : Ordering) → map at_number (pages.put es n row) ≡ pages.put (map at_number es) n row.now
        → map at_number (match_ordering o ((n, row) ∷ e ∷ es) ((e.0, row) ∷ es) (e ∷ pages.put es n row)) ≡ match_ordering o ((n, row.now) ∷ at_number e ∷ map at_number es) ((e.0, row.now) ∷ map at_number es) (at_number e ∷ pages.put (map at_number es) n row.now)
    by Less rest = refl
    by Equal rest = refl
    by Greater rest = ap (λ fs. at_number e ∷ fs) rest

without-at_number : (es : List (ℕ × Bor Row)) (n : ℕ) → map at_number (pages.without es n) ≡ pages.without (map at_number es) n
without-at_number [] n = refl
without-at_number (e ∷ es) n =
    of_cond (map at_number) (nat_eq n e.0) es (e ∷ pages.without es n) ∙ ap (λ fs. cond (nat_eq n e.0) (map at_number es) (at_number e ∷ fs)) (without-at_number es n)

-- the numbers ascend
from-at_number : (n : ℕ) (es : List (ℕ × Bor Row)) → pages.AllFrom n es → pages.AllFrom n (map at_number es)
from-at_number n [] from = tt
from-at_number n (e ∷ es) from = (from.0, from-at_number n es from.1)

ascends-at_number : (es : List (ℕ × Bor Row)) → pages.Ascends es → pages.Ascends (map at_number es)
ascends-at_number [] up = tt
ascends-at_number (e ∷ es) up = (from-at_number (suc e.0) es up.0, ascends-at_number es up.1)

-- no number lies between these ends
none-between : (es : List (ℕ × Row)) → pages.within (Some 0) (Some 0) es ≡ []
none-between [] = refl
none-between (e ∷ es) =
    let never : (pages.is_within (Some 0) (Some 0) e.0) ≡ false = grind (arith, nat_tests) in
    ap (λ b. cond b (e ∷ pages.within (Some 0) (Some 0) es) (pages.within (Some 0) (Some 0) es)) never ∙ none-between es

pub number_range-none : (lower upper : Option Key) → number_ends lower upper ≡ None → IsNumberRange lower upper (Some 0, Some 0)
number_range-none lower upper none es = none-between es ∙ ap (λ ends. numbers_within ends es) (sym none)

-- the numbers of a range
pub numbers-lent : (lower upper : Option Key) (ends : Option ℕ × Option ℕ) (numbers : List (ℕ × Bor Row)) → IsNumberRange lower upper ends → map at_number (pages.within ends.0 ends.1 numbers) ≡ numbers_within (number_ends lower upper) (map at_number numbers)
numbers-lent lower upper ends numbers is =
    kept-filtered at_number (λ e. pages.is_within ends.0 ends.1 e.0) numbers ∙ is (map at_number numbers)

-- a range that runs backwards has no rows, and neither has one that ends where it begins
nothing-within : (lower upper : Option Key) (rows : List (Key × Row)) → ((k : Key) → is_within lower upper k ≡ false) → rows_within lower upper rows ≡ []
nothing-within lower upper [] never = refl
nothing-within lower upper (e ∷ es) never =
    ap (λ b. cond b (e ∷ rows_within lower upper es) (rows_within lower upper es)) (never e.0) ∙ nothing-within lower upper es never

closed : (o : Ordering) → (is_le o && not (is_le o)) ≡ false
closed Less = refl
closed Equal = refl
closed Greater = refl

pub forward-backward : (lower upper : Option Key) → is_backward lower upper ≡ true → IsForwardTo lower upper lower
forward-backward None upper e = cc
forward-backward (Some a) None e = cc
forward-backward (Some a) (Some b) e = record {
  forward = ap is_gt (tied_itself key_cmp_total a);
  same = λ rows.
      nothing-within (Some a) (Some a) rows (λ k. closed (key_cmp a k))
      ∙ sym (nothing-within (Some a) (Some b) rows (λ k. backward-key (Some a) (Some b) k e));
}

pub forward-itself : (lower upper : Option Key) → is_backward lower upper ≡ false → IsForwardTo lower upper upper
forward-itself lower upper e = record { forward = e; same = λ rows. refl }

module _ {Z : Type 0} where
  -- what is found under another key
  pub found-deref : (es : List (Bor (code_key.Key Z) × Bor Row)) (k : Key) → option_copied (lookup (λ x. key_same k (key_of x.now)) es) ≡ row_at (map deref_pair es) k
  found-deref [] k = refl
  found-deref (e ∷ es) k =
      of_cond option_copied (key_same k (key_of e.0.now)) (Some e.1) (lookup (λ x. key_same k (key_of x.now)) es) ∙ ap (cond (key_same k (key_of e.0.now)) (Some e.1.now)) (found-deref es k)

  -- each key may be lent
  pub ref_of : (k : Key) → (q : Bor (code_key.Key Z)) × (key_of q.now ≡ k)
  ref_of k = let x = code_of {Z = Z} k in (record { ref_ptr = (0, 0); now = x.0 }, x.1)

  -- n has this row, or none, at a key, and elsewhere what m has
  abbrev pub Changes : BTreeMap (Bor (code_key.Key Z)) (Bor Row) → BTreeMap (Bor (code_key.Key Z)) (Bor Row) → Key → Option (Bor Row) → Type 0
  Changes m n key w = (q : Bor (code_key.Key Z))
      → lookup (λ x. key_same (key_of q.now) (key_of x.now)) n.entries ≡ cond (key_same key (key_of q.now)) w (lookup (λ x. key_same (key_of q.now) (key_of x.now)) m.entries)

  abbrev IsChanged : List (code_key.Key Z × Row) → List (code_key.Key Z × Row) → Key → Option Row → Type 0
  IsChanged old new key row = (k : Key) → row_at new k ≡ cond (key_same k key) row (row_at old k)

  changed : (m n : BTreeMap (Bor (code_key.Key Z)) (Bor Row)) (key : Key) (w : Option (Bor Row)) → Changes m n key w → IsChanged (map deref_pair m.entries) (map deref_pair n.entries) key (option_copied w)
  changed m n key w is k =
      sym (found-deref n.entries k)
      ∙ ap option_copied (let q = ref_of k in subst (λ l. lookup (λ x. key_same l (key_of x.now)) n.entries ≡ cond (key_same key l) w (lookup (λ x. key_same l (key_of x.now)) m.entries)) q.1 (is q.0))
      ∙ of_cond option_copied (key_same key k) w (lookup (λ x. key_same k (key_of x.now)) m.entries)
      ∙ (λ i. cond ((eq_by_cmp_equiv key_cmp_total).symm key k i) (option_copied w) (found-deref m.entries k i))

  -- no number is among the others
  none-other : (es : List (code_key.Key Z × Row)) → AreOthers es → (n : ℕ) → row_at es (Num n) ≡ None
  none-other [] are n = refl
  none-other ((keys.Num m, row) ∷ es) are n = absurd are.0
  none-other ((keys.Text t, row) ∷ es) are n = none-other es are.1 n
  none-other ((keys.Pair p, row) ∷ es) are n = none-other es are.1 n

  others-from : (es : List (code_key.Key Z × Row)) → ((n : ℕ) → row_at es (Num n) ≡ None) → AreOthers es
  others-from [] none = tt
  others-from ((keys.Num m, row) ∷ es) none =
      let here : Some row ≡ None = sym (ap (λ o. cond (is_eq o) (Some row) (row_at es (Num m))) (tied_itself nat_cmp_total m)) ∙ none m in
      none_there (⊥ × AreOthers es) (Some row) here refl
  others-from ((keys.Text t, row) ∷ es) none = (tt, others-from es none)
  others-from ((keys.Pair p, row) ∷ es) none = (tt, others-from es none)

  apart : (n : ℕ) (key : code_key.Key Z) → IsOther key → key_same (Num n) (key_of key) ≡ false
  apart n (keys.Num m) other = absurd other
  apart n (keys.Text t) other = refl
  apart n (keys.Pair p) other = refl

  still : (old new : List (code_key.Key Z × Row)) (key : code_key.Key Z) (row : Option Row) → IsOther key → AreOthers old → IsChanged old new (key_of key) row → AreOthers new
  still old new key row other are is = others-from new (λ n.
      is (Num n) ∙ ap (λ b. cond b row (row_at old (Num n))) (apart n key other) ∙ none-other old are n)

  written : (numbers : List (ℕ × Row)) (old new : List (code_key.Key Z × Row)) (key : code_key.Key Z) (row : Option Row) → IsOther key → AreOthers old → IsChanged old new (key_of key) row → IsWritten (rows_in numbers old) (key_of key) row (rows_in numbers new)
  written numbers old new key row other are is = at
    where
      at : (k : Key) → row_under (rows_in numbers new) k ≡ cond (key_same k (key_of key)) row (row_under (rows_in numbers old) k)
      at (Num number) =
          sym (found-number number numbers new (still old new key row other are is))
          ∙ found-number number numbers old are
          ∙ ap (λ b. cond b row (row_under (rows_in numbers old) (Num number))) (sym (apart number key other))
      at (KeyText t) =
          sym (found-other (keys.Text t) numbers new tt)
          ∙ is (KeyText t)
          ∙ ap (λ o. cond (key_same (KeyText t) (key_of key)) row o) (found-other (keys.Text t) numbers old tt)
      at (Pair a b) =
          sym (found-other (keys.Pair (a, b)) numbers new tt)
          ∙ is (Pair a b)
          ∙ ap (λ o. cond (key_same (Pair a b) (key_of key)) row o) (found-other (keys.Pair (a, b)) numbers old tt)

  -- what the rows of a table have under a number, and what a write of one does
  pub number-found : (numbers : List (ℕ × Bor Row)) (others : List (Bor (code_key.Key Z) × Bor Row)) (n : ℕ) → AreOthers (map deref_pair others) → option_copied (pages.get numbers n) ≡ row_under (rows_lent numbers others) (Num n)
  number-found numbers others n are = found-at_number numbers n ∙ found-number n (map at_number numbers) (map deref_pair others) are

  pub number-set : (numbers new : List (ℕ × Bor Row)) (others : List (Bor (code_key.Key Z) × Bor Row)) (n : ℕ) (row : Bor Row) → AreOthers (map deref_pair others) → new ≡ pages.put numbers n row → IsWritten (rows_lent numbers others) (Num n) (Some row.now) (rows_lent new others)
  number-set numbers new others n row are is =
      number-put n row.now (map at_number numbers) (map at_number new) (map deref_pair others) are (ap (map at_number) is ∙ put-at_number numbers n row)

  pub number-gone : (numbers new : List (ℕ × Bor Row)) (others : List (Bor (code_key.Key Z) × Bor Row)) (n : ℕ) → AreOthers (map deref_pair others) → pages.Ascends numbers → new ≡ pages.without numbers n → IsWritten (rows_lent numbers others) (Num n) None (rows_lent new others)
  number-gone numbers new others n are up is =
      number-deleted n (map at_number numbers) (map at_number new) (map deref_pair others) are (ascends-at_number numbers up) (ap (map at_number) is ∙ without-at_number numbers n)

  -- the same of another key
  pub other-found : (numbers : List (ℕ × Bor Row)) (others : List (Bor (code_key.Key Z) × Bor Row)) (key : code_key.Key Z) → IsOther key → option_copied (lookup (λ x. key_same (key_of key) (key_of x.now)) others) ≡ row_under (rows_lent numbers others) (key_of key)
  other-found numbers others key other = found-deref others (key_of key) ∙ found-other key (map at_number numbers) (map deref_pair others) other

  pub other-changed : (numbers : List (ℕ × Bor Row)) (m n : BTreeMap (Bor (code_key.Key Z)) (Bor Row)) (key : code_key.Key Z) (w : Option (Bor Row)) → IsOther key → AreOthers (map deref_pair m.entries) → Changes m n (key_of key) w → IsWritten (rows_lent numbers m.entries) (key_of key) (option_copied w) (rows_lent numbers n.entries)
  other-changed numbers m n key w other are is =
      written (map at_number numbers) (map deref_pair m.entries) (map deref_pair n.entries) key (option_copied w) other are (changed m n (key_of key) w is)

  pub others-still : (m n : BTreeMap (Bor (code_key.Key Z)) (Bor Row)) (key : code_key.Key Z) (w : Option (Bor Row)) → IsOther key → AreOthers (map deref_pair m.entries) → Changes m n (key_of key) w → AreOthers (map deref_pair n.entries)
  others-still m n key w other are is =
      still (map deref_pair m.entries) (map deref_pair n.entries) key (option_copied w) other are (changed m n (key_of key) w is)

  -- the rows are in order
  all-deref : (P : Key → Type 0) (es : List (Bor (code_key.Key Z) × Bor Row)) → AllByRecursion (λ b. P (key_of b.now)) (keys_of es) → AllByRecursion (λ k. P (key_of k)) (keys_of (map deref_pair es))
  all-deref P [] h = h
  all-deref P (e ∷ es) h = (h.0, all-deref P es h.1)

  sorted-deref : (es : List (Bor (code_key.Key Z) × Bor Row)) → IsStrictlySortedBy (λ a b. key_cmp (key_of a.now) (key_of b.now)) (keys_of es) → IsStrictlySortedBy (on key_of key_cmp) (keys_of (map deref_pair es))
  unfolding IsStrictlySortedBy
  sorted-deref [] h = h
  sorted-deref (e ∷ es) h = (all-deref (λ y. key_cmp (key_of e.0.now) y ≡ Less) es h.0, sorted-deref es h.1)

  pub lent-ordered : (numbers : List (ℕ × Bor Row)) (others : List (Bor (code_key.Key Z) × Bor Row)) → AreOthers (map deref_pair others) → pages.Ascends numbers → IsStrictlySortedBy (λ a b. key_cmp (key_of a.now) (key_of b.now)) (keys_of others) → IsStrictlySortedBy key_cmp (keys_of (rows_lent numbers others))
  lent-ordered numbers others are up sorted =
      rows-ordered (map at_number numbers) (map deref_pair others) (ascends-at_number numbers up) are (sorted-deref others sorted)

  -- the others of a range
  pub others-lent : (lower upper : Option (Bor (code_key.Key Z))) (lo hi : Bound (Bor (code_key.Key Z))) (es : List (Bor (code_key.Key Z) × Bor Row)) → lo ≡ lower_bound lower → hi ≡ upper_bound upper
      → map deref_pair (entries_between (λ a b. key_cmp (key_of a.now) (key_of b.now)) lo hi es) ≡ entries_within (end_of (option_copied lower)) (end_of (option_copied upper)) (map deref_pair es)
  others-lent lower upper lo hi es p q =
      (λ i. map deref_pair (entries_between (λ a b. key_cmp (key_of a.now) (key_of b.now)) (p i) (q i) es)) ∙ by lower upper
    where
      by : (l u : Option (Bor (code_key.Key Z))) → map deref_pair (entries_between (λ a b. key_cmp (key_of a.now) (key_of b.now)) (lower_bound l) (upper_bound u) es) ≡ entries_within (end_of (option_copied l)) (end_of (option_copied u)) (map deref_pair es)
      by None None = kept-filtered deref_pair (λ (e : code_key.Key Z × Row). is_within None None (key_of e.0)) es
      by None (Some b) = kept-filtered deref_pair (λ (e : code_key.Key Z × Row). is_within None (Some (key_of b.now)) (key_of e.0)) es
      by (Some a) None = kept-filtered deref_pair (λ (e : code_key.Key Z × Row). is_within (Some (key_of a.now)) None (key_of e.0)) es
      by (Some a) (Some b) = kept-filtered deref_pair (λ (e : code_key.Key Z × Row). is_within (Some (key_of a.now)) (Some (key_of b.now)) (key_of e.0)) es

  -- two ends that don't run backwards may be asked for
  pub forward : (lower upper : Option (Bor (code_key.Key Z))) (lo hi : Bound (Bor (code_key.Key Z))) → lo ≡ lower_bound lower → hi ≡ upper_bound upper → is_backward (end_of (option_copied lower)) (end_of (option_copied upper)) ≡ false
      → IsForward (λ a b. is_gt (key_cmp (key_of a.now) (key_of b.now)) ≡ false) (λ a b. key_cmp (key_of a.now) (key_of b.now) ≡ Less) lo hi
  forward lower upper lo hi p q e = rw (p, q) (by lower upper e)
    where
      by : (l u : Option (Bor (code_key.Key Z))) → is_backward (end_of (option_copied l)) (end_of (option_copied u)) ≡ false
          → IsForward (λ a b. is_gt (key_cmp (key_of a.now) (key_of b.now)) ≡ false) (λ a b. key_cmp (key_of a.now) (key_of b.now) ≡ Less) (lower_bound l) (upper_bound u)
      by None None e = tt
      by None (Some b) e = tt
      by (Some a) None e = tt
      by (Some a) (Some b) e = e

  -- what lies in a range of the rows of a table, from its two halves
  pub lent-within : (lower upper end : Option Key) (numbers ns : List (ℕ × Bor Row)) (others os : List (Bor (code_key.Key Z) × Bor Row)) (rows : List (Key × Row)) → rows_lent numbers others ≡ rows → IsForwardTo lower upper end
      → map at_number ns ≡ numbers_within (number_ends lower end) (map at_number numbers) → map deref_pair os ≡ entries_within lower end (map deref_pair others) → rows_lent ns os ≡ rows_within lower upper rows
  lent-within lower upper end numbers ns others os rows view to is are =
      (λ i. rows_in (is i) (are i))
      ∙ sym (within-rows lower end (map at_number numbers) (map deref_pair others))
      ∙ to.same (rows_lent numbers others)
      ∙ ap (rows_within lower upper) view

module _ {Z : Type 0} where
  -- the last row under a key in a list
  abbrev pub last_under : List (Bor (code_key.Key Z) × Bor Row) → Key → Option Row
  last_under items k = option_copied (update_all (λ a b. is_eq (key_cmp (key_of a.now) (key_of b.now))) (λ _. None) items (ref_of k).0)

  pub last-pushed : (items : List (Bor (code_key.Key Z) × Bor Row)) (key : Bor (code_key.Key Z)) (row : Bor Row) (k : Key) → last_under (items ++ (key, row) ∷ []) k ≡ cond (key_same k (key_of key.now)) (Some row.now) (last_under items k)
  last-pushed items key row k =
      let same = λ (a b : Bor (code_key.Key Z)). is_eq (key_cmp (key_of a.now) (key_of b.now)) in
      let q = (ref_of {Z = Z} k).0 in
      let before = update_all same (λ _. None) items q in
      ap (λ (f : Bor (code_key.Key Z) → Option (Bor Row)). option_copied (f q)) (fold-append (λ (f : Bor (code_key.Key Z) → Option (Bor Row)) (e : Bor (code_key.Key Z) × Bor Row). update same f e.0 (Some e.1)) (λ _. None) items ((key, row) ∷ []))
      ∙ ap (λ l. option_copied (cond (key_same (key_of key.now) l) (Some row) before)) (ref_of {Z = Z} k).1
      ∙ of_cond option_copied (key_same (key_of key.now) k) (Some row) before
      ∙ ap (λ b. cond b (Some row.now) (last_under items k)) ((eq_by_cmp_equiv key_cmp_total).symm (key_of key.now) k)

  -- the row under a key among the numbers, and among the others in a list
  abbrev pub gathered : List (ℕ × Bor Row) → List (Bor (code_key.Key Z) × Bor Row) → Key → Option Row
  gathered numbers items (Num n) = pages.get (map at_number numbers) n
  gathered numbers items (KeyText t) = last_under items (KeyText t)
  gathered numbers items (Pair a b) = last_under items (Pair a b)

  -- no number is in a list
  abbrev pub HasOthers : List (Bor (code_key.Key Z) × Bor Row) → Type 0
  HasOthers items = (n : ℕ) → last_under items (Num n) ≡ None

  pub gathered-none : (numbers : List (ℕ × Bor Row)) (items : List (Bor (code_key.Key Z) × Bor Row)) → numbers ≡ [] → items ≡ [] → (k : Key) → gathered numbers items k ≡ None
  gathered-none numbers items none nothing (Num n) = ap (λ es. pages.get (map at_number es) n) none
  gathered-none numbers items none nothing (KeyText t) = ap (λ es. last_under es (KeyText t)) nothing
  gathered-none numbers items none nothing (Pair a b) = ap (λ es. last_under es (Pair a b)) nothing

  pub others-none : (items : List (Bor (code_key.Key Z) × Bor Row)) → items ≡ [] → HasOthers items
  others-none items nothing n = ap (λ es. last_under es (Num n)) nothing

  pub gathered-number : (numbers new : List (ℕ × Bor Row)) (items : List (Bor (code_key.Key Z) × Bor Row)) (key : Key) (n : ℕ) (row : Bor Row) → key ≡ Num n → new ≡ pages.put numbers n row → (k : Key) → gathered new items k ≡ cond (key_same k key) (Some row.now) (gathered numbers items k)
  gathered-number numbers new items key n row same is k = at k ∙ ap (λ l. cond (key_same k l) (Some row.now) (gathered numbers items k)) (sym same)
    where
      at : (k : Key) → gathered new items k ≡ cond (key_same k (Num n)) (Some row.now) (gathered numbers items k)
      at (Num m) =
          found-number {Z = Z} m (map at_number new) [] tt
          ∙ number-set {Z = Z} numbers new [] n row tt is (Num m)
          ∙ ap (λ o. cond (key_same (Num m) (Num n)) (Some row.now) o) (sym (found-number {Z = Z} m (map at_number numbers) [] tt))
      at (KeyText t) = refl
      at (Pair a b) = refl

  pub gathered-other : (numbers : List (ℕ × Bor Row)) (items : List (Bor (code_key.Key Z) × Bor Row)) (key : Key) (other : Bor (code_key.Key Z)) (row : Bor Row) → key ≡ key_of other.now → IsOther other.now → (k : Key) → gathered numbers (items ++ (other, row) ∷ []) k ≡ cond (key_same k key) (Some row.now) (gathered numbers items k)
  gathered-other numbers items key other row same is k = at k ∙ ap (λ l. cond (key_same k l) (Some row.now) (gathered numbers items k)) (sym same)
    where
      at : (k : Key) → gathered numbers (items ++ (other, row) ∷ []) k ≡ cond (key_same k (key_of other.now)) (Some row.now) (gathered numbers items k)
      at (Num m) = ap (λ b. cond b (Some row.now) (pages.get (map at_number numbers) m)) (sym (apart m other.now is))
      at (KeyText t) = last-pushed items other row (KeyText t)
      at (Pair a b) = last-pushed items other row (Pair a b)

  pub others-pushed : (items : List (Bor (code_key.Key Z) × Bor Row)) (other : Bor (code_key.Key Z)) (row : Bor Row) → IsOther other.now → HasOthers items → HasOthers (items ++ (other, row) ∷ [])
  others-pushed items other row is others n =
      last-pushed items other row (Num n) ∙ ap (λ b. cond b (Some row.now) (last_under items (Num n))) (apart n other.now is) ∙ others n

  -- the map of the others has what was gathered
  abbrev pub IsMadeOf : List (Bor (code_key.Key Z) × Bor Row) → BTreeMap (Bor (code_key.Key Z)) (Bor Row) → Type 0
  IsMadeOf items m = (q : Bor (code_key.Key Z)) → lookup (λ x. key_same (key_of q.now) (key_of x.now)) m.entries ≡ update_all (λ a b. is_eq (key_cmp (key_of a.now) (key_of b.now))) (λ _. None) items q

  pub made-of : (items xs : List (Bor (code_key.Key Z) × Bor Row)) (m : BTreeMap (Bor (code_key.Key Z)) (Bor Row)) → xs ≡ items → IsFromIterResult (λ a b. key_cmp (key_of a.now) (key_of b.now)) xs m → IsMadeOf items m
  made-of items xs m same made q =
      made.0 q ∙ ap (λ es. update_all (λ a b. is_eq (key_cmp (key_of a.now) (key_of b.now))) (λ _. None) es q) same

  made-under : (items : List (Bor (code_key.Key Z) × Bor Row)) (m : BTreeMap (Bor (code_key.Key Z)) (Bor Row)) → IsMadeOf items m → (k : Key) → row_at (map deref_pair m.entries) k ≡ last_under items k
  made-under items m made k =
      sym (found-deref m.entries k)
      ∙ ap (λ l. option_copied (lookup (λ x. key_same l (key_of x.now)) m.entries)) (sym (ref_of {Z = Z} k).1)
      ∙ ap option_copied (made (ref_of k).0)

  pub made-others : (items : List (Bor (code_key.Key Z) × Bor Row)) (m : BTreeMap (Bor (code_key.Key Z)) (Bor Row)) → IsMadeOf items m → HasOthers items → AreOthers (map deref_pair m.entries)
  made-others items m made others = others-from (map deref_pair m.entries) (λ n. made-under items m made (Num n) ∙ others n)

  pub made-found : (numbers : List (ℕ × Bor Row)) (items : List (Bor (code_key.Key Z) × Bor Row)) (m : BTreeMap (Bor (code_key.Key Z)) (Bor Row)) → IsMadeOf items m → HasOthers items → (k : Key) → row_under (rows_lent numbers m.entries) k ≡ gathered numbers items k
  made-found numbers items m made others (Num n) = sym (found-number n (map at_number numbers) (map deref_pair m.entries) (made-others items m made others))
  made-found numbers items m made others (KeyText t) = sym (found-other (keys.Text t) (map at_number numbers) (map deref_pair m.entries) tt) ∙ made-under items m made (KeyText t)
  made-found numbers items m made others (Pair a b) = sym (found-other (keys.Pair (a, b)) (map at_number numbers) (map deref_pair m.entries) tt) ∙ made-under items m made (Pair a b)
