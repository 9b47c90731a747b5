-- The rows of one table, those under numbers and the others: what is found, and what a write does.
use Rattle.std.proofs.Common.{◌≡◌, ℕ, Bool, true, false, cond, nat_eq, List, [], ◌∷◌, ◌++◌, map, Option, None, Some, IsSome, Ordering, Less, Equal, Greater, is_eq, refl, sym, ap, subst, ◌∙◌, BTreeMap}
use Rattle.std.specs.Ordering.{nat_cmp, match_ordering}
use Rattle.std.specs.Prelude.{Result, Ok, Err, OnOk, OnErr}
use Rattle.std.specs.BTreeMap.{IsUnchanged}
use Rattle.std.specs.Cmp.{nat_cmp_total, tied_itself, unsigned_Decides, unsigned_tied}
use Rattle.std.specs.FinMap.{nat_cmp-IsAntisymmetric}
use Rattle.std.specs.Option.{option_or}
use Rattle.occ_types.specs.Key.{Key, Num, Text as KeyText, Pair}
use Rattle.occ_types.specs.Same.{key_same}
use Rattle.occ_types.specs.PlainData.{key_of}
use Rattle.occ_types.specs.Row.{Row}
use Rattle.occ_types.specs.declared.keys.Key as code_key
use Rattle.occ_types.specs.declared.keys.Key.TheVariants as keys
use Rattle.occ_sets.specs.PlainSets.{rows_of}
use Rattle.occ_pages.specs.Entries as pages
use Rattle.occ_pages.proofs.Laws.{get-absent}
use Rattle.occ_book.specs.Content.{IsPut}
use Rattle.occ_book.specs.Table.{numbered, row_under, IsWritten, IsOther, AreOthers, rows_in}
use Rattle.occ_book.proofs.TableEntries.{row_at, row_at-plain}
use Rattle.occ_book.proofs.Views.{alone, row_at-put}
use Rattle.occ_book.proofs.Undoing.{none_there}

-- tests one behind another
nothing : {X : Type 0} (b : Bool) → ◌≡◌ {A = Option X} None (cond b None None)
nothing true = refl
nothing false = refl

twice : {X : Type 0} (b : Bool) (x y z : X) → cond b x z ≡ cond b x (cond b y z)
twice true x y z = refl
twice false x y z = refl

swapped : {X : Type 0} (b c : Bool) (x y z : X) → (b ≡ true → c ≡ true → x ≡ y) → cond b x (cond c y z) ≡ cond c y (cond b x z)
swapped true true x y z same = same refl refl
swapped true false x y z same = refl
swapped false true x y z same = refl
swapped false false x y z same = refl

gone : {X : Type 0} (b : Bool) (x y : Option X) → (b ≡ true → y ≡ None) → y ≡ cond b None (cond b x y)
gone true x y none = none refl
gone false x y none = refl

-- what is found under numbers after a row was put
found-put : (n : ℕ) (row : Row) (es : List (ℕ × Row)) (m : ℕ) → pages.get (pages.put es n row) m ≡ cond (nat_eq m n) (Some row) (pages.get es m)
found-put n row [] m = refl
found-put n row (e ∷ es) m = by (nat_cmp n e.0) refl (found-put n row es m)
  where
    by : (o : Ordering) → nat_cmp n e.0 ≡ o → pages.get (pages.put es n row) m ≡ cond (nat_eq m n) (Some row) (pages.get es m) → pages.get (pages.put (e ∷ es) n row) m ≡ cond (nat_eq m n) (Some row) (pages.get (e ∷ es) m)
    by Less is rest = ap (λ o. pages.get (match_ordering o ((n, row) ∷ e ∷ es) ((e.0, row) ∷ es) (e ∷ pages.put es n row)) m) is
    by Equal is rest =
        ap (λ o. pages.get (match_ordering o ((n, row) ∷ e ∷ es) ((e.0, row) ∷ es) (e ∷ pages.put es n row)) m) is
        ∙ twice (nat_eq m e.0) (Some row) (Some e.1) (pages.get es m)
        ∙ ap (λ k. cond (nat_eq m k) (Some row) (pages.get (e ∷ es) m)) (sym (nat_cmp-IsAntisymmetric n e.0 is))
    by Greater is rest =
        ap (λ o. pages.get (match_ordering o ((n, row) ∷ e ∷ es) ((e.0, row) ∷ es) (e ∷ pages.put es n row)) m) is
        ∙ ap (λ o. cond (nat_eq m e.0) (Some e.1) o) rest
        ∙ swapped (nat_eq m e.0) (nat_eq m n) (Some e.1) (Some row) (pages.get es m) (λ p q.
        let one : n ≡ e.0 = sym ((unsigned_Decides m n).0 q) ∙ (unsigned_Decides m e.0).0 p in
        let both : Greater ≡ Equal = sym is ∙ ap (nat_cmp n) (sym one) ∙ tied_itself nat_cmp_total n in
        cc)

-- and after one was taken out
found-without : (n : ℕ) (es : List (ℕ × Row)) (m : ℕ) → pages.Ascends es → pages.get (pages.without es n) m ≡ cond (nat_eq m n) None (pages.get es m)
found-without n [] m up = nothing (nat_eq m n)
found-without n (e ∷ es) m up = by (nat_eq n e.0) refl (found-without n es m up.1)
  where
    by : (b : Bool) → nat_eq n e.0 ≡ b → pages.get (pages.without es n) m ≡ cond (nat_eq m n) None (pages.get es m) → pages.get (pages.without (e ∷ es) n) m ≡ cond (nat_eq m n) None (pages.get (e ∷ es) m)
    by true is rest =
        let one : n ≡ e.0 = (unsigned_Decides n e.0).0 is in
        ap (λ b. pages.get (cond b es (e ∷ pages.without es n)) m) is
        ∙ gone (nat_eq m n) (Some e.1) (pages.get es m) (λ q. ap (pages.get es) ((unsigned_Decides m n).0 q ∙ one) ∙ get-absent e.0 [] es tt up.0)
        ∙ ap (λ k. cond (nat_eq m n) None (cond (nat_eq m k) (Some e.1) (pages.get es m))) one
    by false is rest =
        ap (λ b. pages.get (cond b es (e ∷ pages.without es n)) m) is
        ∙ ap (λ o. cond (nat_eq m e.0) (Some e.1) o) rest
        ∙ swapped (nat_eq m e.0) (nat_eq m n) (Some e.1) None (pages.get es m) (λ p q.
        let one : n ≡ e.0 = sym ((unsigned_Decides m n).0 q) ∙ (unsigned_Decides m e.0).0 p in
        let both : false ≡ true = sym is ∙ (unsigned_Decides n e.0).1 one in
        cc)

-- what is found among two lists of rows
under-append : (k : Key) (xs ys : List (Key × Row)) → row_under (xs ++ ys) k ≡ option_or (row_under xs k) (row_under ys k)
under-append k [] ys = refl
under-append k (x ∷ xs) ys =
    elim (key_same k x.0) as (λ b. cond b (Some x.1) (row_under (xs ++ ys) k) ≡ option_or (cond b (Some x.1) (row_under xs k)) (row_under ys k)) [
      | true ↦ refl
      | false ↦ under-append k xs ys
    ]

-- a number is found among the numbers, and no other key is
under-number : (n : ℕ) (es : List (ℕ × Row)) → row_under (map numbered es) (Num n) ≡ pages.get es n
under-number n [] = refl
under-number n (e ∷ es) = (λ i. cond (unsigned_tied n e.0 i) (Some e.1) (under-number n es i))

module _ {Z : Type 0} where
  under-other : (key : code_key.Key Z) (es : List (ℕ × Row)) → IsOther key → row_under (map numbered es) (key_of key) ≡ None
  under-other (keys.Num n) es other = absurd other
  under-other (keys.Text t) [] other = refl
  under-other (keys.Text t) (e ∷ es) other = under-other (keys.Text t) es other
  under-other (keys.Pair p) [] other = refl
  under-other (keys.Pair p) (e ∷ es) other = under-other (keys.Pair p) es other

  -- no number is among the others
  none-other : (es : List (code_key.Key Z × Row)) → AreOthers es → (n : ℕ) → row_at es (Num n) ≡ None
  none-other [] are n = refl
  none-other ((keys.Num m, row) ∷ es) are n = absurd are.0
  none-other ((keys.Text t, row) ∷ es) are n = none-other es are.1 n
  none-other ((keys.Pair p, row) ∷ es) are n = none-other es are.1 n

  others-from : (es : List (code_key.Key Z × Row)) → ((n : ℕ) → row_at es (Num n) ≡ None) → AreOthers es
  others-from [] none = tt
  others-from ((keys.Num m, row) ∷ es) none =
      let here : Some row ≡ None = sym (ap (λ o. cond (is_eq o) (Some row) (row_at es (Num m))) (tied_itself nat_cmp_total m)) ∙ none m in
      none_there (⊥ × AreOthers es) (Some row) here refl
  others-from ((keys.Text t, row) ∷ es) none = (tt, others-from es none)
  others-from ((keys.Pair p, row) ∷ es) none = (tt, others-from es none)

  -- a table has under a number what the numbers have
  pub found-number : (n : ℕ) (numbers : List (ℕ × Row)) (others : List (code_key.Key Z × Row)) → AreOthers others → pages.get numbers n ≡ row_under (rows_in numbers others) (Num n)
  found-number n numbers others are =
      sym (under-append (Num n) (map numbered numbers) (rows_of others)
      ∙ (λ i. option_or (under-number n numbers i) ((row_at-plain others (Num n) ∙ none-other others are n) i))
      ∙ alone (pages.get numbers n))

  -- and under another key what the others have
  pub found-other : (key : code_key.Key Z) (numbers : List (ℕ × Row)) (others : List (code_key.Key Z × Row)) → IsOther key → row_at others (key_of key) ≡ row_under (rows_in numbers others) (key_of key)
  found-other key numbers others other =
      sym (under-append (key_of key) (map numbered numbers) (rows_of others)
      ∙ (λ i. option_or (under-other key numbers other i) (row_at-plain others (key_of key) i)))

  apart : (n : ℕ) (key : code_key.Key Z) → IsOther key → key_same (Num n) (key_of key) ≡ false
  apart n (keys.Num m) other = absurd other
  apart n (keys.Text t) other = refl
  apart n (keys.Pair p) other = refl

  -- a write among the numbers
  pub number-written : (n : ℕ) (row : Option Row) (numbers new : List (ℕ × Row)) (others : List (code_key.Key Z × Row)) → AreOthers others → ((m : ℕ) → pages.get new m ≡ cond (nat_eq m n) row (pages.get numbers m)) → IsWritten (rows_in numbers others) (Num n) row (rows_in new others)
  number-written n row numbers new others are is = at
    where
      at : (other : Key) → row_under (rows_in new others) other ≡ cond (key_same other (Num n)) row (row_under (rows_in numbers others) other)
      at (Num m) =
          sym (found-number m new others are) ∙ is m ∙ (λ i. cond (sym (unsigned_tied m n) i) row (found-number m numbers others are i))
      at (KeyText t) = sym (found-other (keys.Text t) new others tt) ∙ found-other (keys.Text t) numbers others tt
      at (Pair a b) = sym (found-other (keys.Pair (a, b)) new others tt) ∙ found-other (keys.Pair (a, b)) numbers others tt

  pub number-put : (n : ℕ) (row : Row) (numbers new : List (ℕ × Row)) (others : List (code_key.Key Z × Row)) → AreOthers others → new ≡ pages.put numbers n row → IsWritten (rows_in numbers others) (Num n) (Some row) (rows_in new others)
  number-put n row numbers new others are is =
      number-written n (Some row) numbers new others are (λ m. ap (λ es. pages.get es m) is ∙ found-put n row numbers m)

  pub number-deleted : (n : ℕ) (numbers new : List (ℕ × Row)) (others : List (code_key.Key Z × Row)) → AreOthers others → pages.Ascends numbers → new ≡ pages.without numbers n → IsWritten (rows_in numbers others) (Num n) None (rows_in new others)
  number-deleted n numbers new others are up is =
      number-written n None numbers new others are (λ m. ap (λ es. pages.get es m) is ∙ found-without n numbers m up)

  -- a write among the others leaves no number there
  pub still-others : (m n : BTreeMap (code_key.Key Z) Row) (key : code_key.Key Z) (row : Option Row) → IsOther key → AreOthers m.entries → IsPut m key row n → AreOthers n.entries
  still-others m n key row other are is = others-from n.entries (λ number.
      row_at-put m n key row is (Num number)
      ∙ ap (λ b. cond b row (row_at m.entries (Num number))) (apart number key other)
      ∙ none-other m.entries are number)

  pub other-written : (numbers : List (ℕ × Row)) (m n : BTreeMap (code_key.Key Z) Row) (key : code_key.Key Z) (row : Option Row) → IsOther key → AreOthers m.entries → IsPut m key row n → IsWritten (rows_in numbers m.entries) (key_of key) row (rows_in numbers n.entries)
  other-written numbers m n key row other are is = at
    where
      at : (k : Key) → row_under (rows_in numbers n.entries) k ≡ cond (key_same k (key_of key)) row (row_under (rows_in numbers m.entries) k)
      at (Num number) =
          sym (found-number number numbers n.entries (still-others m n key row other are is))
          ∙ found-number number numbers m.entries are
          ∙ ap (λ b. cond b row (row_under (rows_in numbers m.entries) (Num number))) (sym (apart number key other))
      at (KeyText t) =
          sym (found-other (keys.Text t) numbers n.entries tt)
          ∙ row_at-put m n key row is (KeyText t)
          ∙ ap (λ o. cond (key_same (KeyText t) (key_of key)) row o) (found-other (keys.Text t) numbers m.entries tt)
      at (Pair a b) =
          sym (found-other (keys.Pair (a, b)) numbers n.entries tt)
          ∙ row_at-put m n key row is (Pair a b)
          ∙ ap (λ o. cond (key_same (Pair a b) (key_of key)) row o) (found-other (keys.Pair (a, b)) numbers m.entries tt)

module _ {Z : Type 0} where
  -- a key that is no number is another one
  pub other : (key : code_key.Key Z) → ((n : ℕ) → key ≡ keys.Num n → ⊥) → IsOther key
  other (keys.Num n) isnt = isnt n refl
  other (keys.Text t) isnt = tt
  other (keys.Pair p) isnt = tt

  -- nor does a row that is put in the place of another one
  pub replaced-others : (m n : BTreeMap (code_key.Key Z) Row) (key : code_key.Key Z) (row : Row) → IsOther key → AreOthers m.entries → (IsSome (row_at m.entries (key_of key)) → IsPut m key (Some row) n) → (row_at m.entries (key_of key) ≡ None → n.entries ≡ m.entries) → AreOthers n.entries
  replaced-others m n key row other are there missing = by (row_at m.entries (key_of key)) refl
    where
      by : (o : Option Row) → row_at m.entries (key_of key) ≡ o → AreOthers n.entries
      by None is = subst (λ (es : List (code_key.Key Z × Row)). AreOthers es) (sym (missing is)) are
      by (Some x) is = still-others m n key (Some row) other are (there (subst IsSome (sym is) refl))

  -- nor does a row that comes in or is refused
  pub inserted-others : {T E : Type 0} (m n : BTreeMap (code_key.Key Z) Row) (key : code_key.Key Z) (row : Row) (r : Result T E) → IsOther key → AreOthers m.entries → OnOk r (IsPut m key (Some row) n) → OnErr r (IsUnchanged m n) → AreOthers n.entries
  inserted-others m n key row (Ok x) other are ok err = still-others m n key (Some row) other are ok
  inserted-others m n key row (Err y) other are ok err = subst (λ (es : List (code_key.Key Z × Row)). AreOthers es) (sym err) are

  -- a write under a number, and one of rows that are seen otherwise
  pub carried : (key : code_key.Key Z) (n : ℕ) (row : Option Row) (old seen new : List (Key × Row)) → key ≡ keys.Num n → seen ≡ old → IsWritten seen (Num n) row new → IsWritten old (key_of key) row new
  carried key n row old seen new is view written = λ (at : Key).
      written at ∙ (λ i. cond (key_same at (key_of (sym is i))) row (row_under (view i) at))

pub seen-written : (key : Key) (row : Option Row) (old seen new : List (Key × Row)) → seen ≡ old → IsWritten seen key row new → IsWritten old key row new
seen-written key row old seen new view written = λ (at : Key).
    written at ∙ (λ i. cond (key_same at key) row (row_under (view i) at))

-- a write of a row that is given otherwise
pub given : (key : Key) (row is : Option Row) (old new : List (Key × Row)) → row ≡ is → IsWritten old key is new → IsWritten old key row new
given key row is old new same written = λ (at : Key).
    written at ∙ (λ i. cond (key_same at key) (sym same i) (row_under old at))
