-- The rows of one table that lie in a range, those under numbers and the others, and copies of a table.
use Rattle.std.proofs.Common.{◌≡◌, ◌<◌, ◌≤◌, ℕ, Bool, true, false, not, ◌&&◌, cond, nat_eq, nat_lt, nat_le, List, [], ◌∷◌, ◌++◌, map, filter, Option, None, Some, Less, Equal, Greater, is_le, refl, sym, ap, subst, ◌∙◌, arith, BTreeMap, ◌+◌, suc, length, length-append, append_assoc}
use Rattle.std.proofs.lemmas.List.{append-nil}
use Rattle.std.specs.BTreeMap.{IsClone}
use Rattle.std.specs.Ordering.{nat_cmp}
use Rattle.std.specs.Cmp.{nat_cmp_is, unsigned_Decides}
use Rattle.std.proofs.lemmas.Bool.Decides.{nat_tests}
use Rattle.std.proofs.lemmas.List.Elements.{filter-append}
use Rattle.occ_types.specs.Key.{Key, Num, Text as KeyText, Pair, key_cmp}
use Rattle.occ_types.specs.Question.{is_below}
use Rattle.occ_types.specs.PlainData.{key_of}
use Rattle.occ_types.specs.Row.{Row}
use Rattle.occ_types.specs.declared.keys.Key as code_key
use Rattle.occ_types.specs.declared.keys.Key.TheVariants as keys
use Rattle.occ_sets.specs.PlainSets.{rows_of}
use Rattle.occ_pages.specs.Copies.{AreCopies}
use Rattle.occ_pages.specs.Entries as pages
use Rattle.occ_book.specs.Content.{is_within, entries_within, seen}
use Rattle.occ_book.specs.Table.{numbered, under_number, rows_within, number_end, number_ends, numbers_within, rows_in, AreOthers}
use Rattle.occ_book.proofs.Copies.{same_entries}
use Rattle.occ_book.proofs.TableEntries.{kept-filtered, sorted-plain}
use Rattle.occ_book.proofs.Common.{AllByRecursion, IsStrictlySortedBy, keys_of, on, length-map, map-append}

-- numbers in the order of keys and as tests
le : (a b : ℕ) → is_le (nat_cmp a b) ≡ nat_le a b
le a b = by (nat_le a b) refl (nat_eq a b) refl
  where
    by : (t : Bool) → nat_le a b ≡ t → (s : Bool) → nat_eq a b ≡ s → is_le (nat_cmp a b) ≡ nat_le a b
    by true is true eq = ap is_le (sym (nat_cmp_is a b Equal ((unsigned_Decides a b).0 eq))) ∙ sym is
    by true is false eq =
        let less : a < b = grind (arith, nat_tests) in
        ap is_le (sym (nat_cmp_is a b Less less)) ∙ sym is
    by false is s eq =
        let more : b < a = grind (arith, nat_tests) in
        ap is_le (sym (nat_cmp_is a b Greater more)) ∙ sym is

lt : (a b : ℕ) → not (is_le (nat_cmp a b)) ≡ nat_lt b a
lt a b = ap not (le a b) ∙ by (nat_le a b) refl
  where
    by : (t : Bool) → nat_le a b ≡ t → not (nat_le a b) ≡ nat_lt b a
    by true is =
        let no : nat_lt b a ≡ false = grind (arith, nat_tests) in
        ap not is ∙ sym no
    by false is =
        let yes : nat_lt b a ≡ true = grind (arith, nat_tests) in
        ap not is ∙ sym yes

below : (upper : Option Key) (m : ℕ) → is_below upper (Num m) ≡ pages.is_below (number_end upper) m
below None m = refl
below (Some (Num n)) m = lt n m
below (Some (KeyText t)) m = refl
below (Some (Pair a b)) m = refl

-- the numbers of a range
within-numbers : (lower upper : Option Key) (es : List (ℕ × Row)) → rows_within lower upper (map numbered es) ≡ map numbered (numbers_within (number_ends lower upper) es)
within-numbers None upper es =
    sym (kept-filtered numbered (λ e. is_within None upper e.0) es) ∙ (λ i. map numbered (filter (λ (e : ℕ × Row). below upper e.0 i) es))
within-numbers (Some (Num n)) upper es =
    sym (kept-filtered numbered (λ e. is_within (Some (Num n)) upper e.0) es) ∙ (λ i. map numbered (filter (λ (e : ℕ × Row). le n e.0 i && below upper e.0 i) es))
within-numbers (Some (KeyText t)) upper [] = refl
within-numbers (Some (KeyText t)) upper (e ∷ es) = within-numbers (Some (KeyText t)) upper es
within-numbers (Some (Pair a b)) upper [] = refl
within-numbers (Some (Pair a b)) upper (e ∷ es) = within-numbers (Some (Pair a b)) upper es

module _ {Z : Type 0} where
  -- the rows of a range are those of the numbers in it, and then those of the others in it
  pub within-rows : (lower upper : Option Key) (numbers : List (ℕ × Row)) (others : List (code_key.Key Z × Row)) → rows_within lower upper (rows_in numbers others) ≡ rows_in (numbers_within (number_ends lower upper) numbers) (entries_within lower upper others)
  within-rows lower upper numbers others =
      filter-append (λ (e : Key × Row). is_within lower upper e.0) (map numbered numbers) (rows_of others)
      ∙ (λ i. within-numbers lower upper numbers i ++ sym (kept-filtered (λ (e : code_key.Key Z × Row). (key_of e.0, e.1)) (λ e. is_within lower upper e.0) others) i)

-- copies of rows are the rows
same-numbers : (es fs : List (ℕ × Row)) → AreCopies (λ a b. b ≡ a) es fs → fs ≡ es
same-numbers [] [] are = refl
same-numbers [] (f ∷ fs) are = absurd are
same-numbers (e ∷ es) [] are = absurd are
same-numbers (e ∷ es) (f ∷ fs) are = (λ i. (are.0.0 i, are.0.1 i) ∷ same-numbers es fs are.1 i)

module _ {Z : Type 0} where
  -- a copy of a table has its rows
  pub rows-copied : (numbers copies : List (ℕ × Row)) (m n : BTreeMap (code_key.Key Z) Row) → AreCopies (λ a b. b ≡ a) numbers copies → IsClone (λ a b. b ≡ a) (λ a b. b ≡ a) m n → rows_in copies n.entries ≡ rows_in numbers m.entries
  rows-copied numbers copies m n are same = (λ i. rows_in (same-numbers numbers copies are i) (same_entries m n same i))

  -- and no number among the others
  pub others-copied : (m n : BTreeMap (code_key.Key Z) Row) → IsClone (λ a b. b ≡ a) (λ a b. b ≡ a) m n → AreOthers m.entries → AreOthers n.entries
  others-copied m n same are = subst (λ (es : List (code_key.Key Z × Row)). AreOthers es) (sym (same_entries m n same)) are

-- the rows of a table are in order where the numbers are and the others are
above-number : {Z : Type 0} (n : ℕ) (numbers : List (ℕ × Row)) (others : List (code_key.Key Z × Row)) → pages.AllFrom (suc n) numbers → AreOthers others → AllByRecursion (λ y. key_cmp (Num n) y ≡ Less) (keys_of (rows_in numbers others))
above-number n [] [] from are = tt
above-number n [] ((keys.Num m, row) ∷ es) from are = absurd are.0
above-number n [] ((keys.Text t, row) ∷ es) from are = (refl, above-number n [] es tt are.1)
above-number n [] ((keys.Pair p, row) ∷ es) from are = (refl, above-number n [] es tt are.1)
above-number n (e ∷ es) others from are = (sym (nat_cmp_is n e.0 Less (omega (arith, from.0))), above-number n es others from.1 are)

pub rows-ordered : {Z : Type 0} (numbers : List (ℕ × Row)) (others : List (code_key.Key Z × Row)) → pages.Ascends numbers → AreOthers others → IsStrictlySortedBy (on key_of key_cmp) (keys_of others) → IsStrictlySortedBy key_cmp (keys_of (rows_in numbers others))
unfolding IsStrictlySortedBy
rows-ordered [] others up are sorted = sorted-plain others sorted
rows-ordered (e ∷ es) others up are sorted = (above-number e.0 es others up.0 are, rows-ordered es others up.1 are sorted)

pub rows-many : {Z : Type 0} (numbers : List (ℕ × Row)) (others : List (code_key.Key Z × Row)) → length (rows_in numbers others) ≡ length numbers + length others
rows-many {Z} numbers others =
    length-append (map numbered numbers) (rows_of others)
    ∙ (λ i. length-map {B = Key × Row} numbers numbered i + length-map {B = Key × Row} others (λ (e : code_key.Key Z × Row). (key_of e.0, e.1)) i)

-- how many rows lie in a range
pub within-many : {Z : Type 0} (lower upper : Option Key) (numbers : List (ℕ × Row)) (others : List (code_key.Key Z × Row)) (rows : List (Key × Row)) → rows_in numbers others ≡ rows → length (rows_within lower upper rows) ≡ length (numbers_within (number_ends lower upper) numbers) + length (entries_within lower upper others)
within-many lower upper numbers others rows view =
    ap (λ rs. length (rows_within lower upper rs)) (sym view)
    ∙ ap length (within-rows lower upper numbers others)
    ∙ rows-many (numbers_within (number_ends lower upper) numbers) (entries_within lower upper others)

-- copies of the numbers and of the others are the rows
numbers-seen : (Z : Type 0) (numbers : List (ℕ × Row)) → map (seen {Z = Z}) (map under_number numbers) ≡ map numbered numbers
numbers-seen Z [] = refl
numbers-seen Z (e ∷ es) = ap (λ fs. numbered e ∷ fs) (numbers-seen Z es)

pub rows-seen : {Z : Type 0} (lower upper : Option Key) (numbers : List (ℕ × Row)) (others : List (code_key.Key Z × Row)) (rows : List (Key × Row)) → rows_in numbers others ≡ rows → map seen (map under_number (numbers_within (number_ends lower upper) numbers) ++ entries_within lower upper others) ≡ rows_within lower upper rows
rows-seen lower upper numbers others rows view =
    let ns = numbers_within (number_ends lower upper) numbers in
    let es = entries_within lower upper others in
    map-append seen (map under_number ns) es
    ∙ ap (λ rs. rs ++ rows_of es) (numbers-seen _ ns)
    ∙ sym (within-rows lower upper numbers others)
    ∙ ap (rows_within lower upper) view

-- one more item goes behind those so far, and leaves the rest
pub pushed : {X : Type 0} (items new all left rest : List X) (x y : X) → items ++ left ≡ all → left ≡ y ∷ rest → new ≡ items ++ x ∷ [] → x ≡ y → new ++ rest ≡ all
pushed items new all left rest x y is split more same =
    ap (λ xs. xs ++ rest) more ∙ append_assoc items (x ∷ []) rest ∙ ap (λ z. items ++ z ∷ rest) same ∙ ap (λ xs. items ++ xs) (sym split) ∙ is

pub all-pushed : {X : Type 0} (items all left : List X) → items ++ left ≡ all → left ≡ [] → items ≡ all
all-pushed items all left is none = sym (append-nil items) ∙ ap (λ xs. items ++ xs) (sym none) ∙ is

-- no more rows lie in a range than there are
pub within-short : (lower upper : Option Key) (rows : List (Key × Row)) → length (rows_within lower upper rows) ≤ length rows
within-short lower upper [] = omega arith
within-short lower upper (e ∷ es) =
    let h = within-short lower upper es in
    elim (is_within lower upper e.0) as (λ b. length (cond b (e ∷ rows_within lower upper es) (rows_within lower upper es)) ≤ suc (length es)) [
      | true ↦ omega (arith, h)
      | false ↦ omega (arith, h)
    ]
