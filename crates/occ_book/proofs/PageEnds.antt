-- The rows of a range one after another, and where its pages are cut.
use Rattle.std.proofs.Common.{◌≡◌, ◌≤◌, ◌+◌, ◌-◌, ℕ, Bool, true, false, not, ◌&&◌, cond, nat_lt, nat_le, le-ltb, List, [], ◌∷◌, map, length, length-append, drop, take, ◌++◌, append_assoc, zero, suc, Option, None, Some, is_le, is_gt, refl, sym, ap, ◌∙◌, arith}
use Rattle.std.proofs.lemmas.List.{append-nil, drop_all, length-drop, length-take-le, take_all, drop-append-le, take-append-le, take-take}
use Rattle.std.specs.Option.{option_or}
use Rattle.std.specs.Cmp.{tied_itself}
use Rattle.occ_types.specs.After.{key_after}
use Rattle.occ_types.specs.Key.{Key, Num, key_cmp, key_cmp_total}
use Rattle.occ_types.specs.PlainData.{key_of}
use Rattle.occ_types.specs.Row.{Row}
use Rattle.occ_types.specs.Schema.{Table, check_key_in}
use Rattle.occ_types.specs.declared.fault.Fault.{Fault}
use Rattle.occ_types.specs.declared.keys.Key as code_key
use Rattle.occ_sets.specs.PlainSets.{rows_of}
use Rattle.occ_pages.specs.Entries as pages
use Rattle.occ_book.specs.Content.{is_within, is_backward, seen}
use Rattle.occ_book.specs.Table.{last_key, numbered, rows_in}
use Rattle.occ_model.specs.Paging.{page_size, first_key, last_in, last_behind, end_behind, first_end, last_begin}
use Rattle.occ_model.proofs.PageRows.{some_size}
use Rattle.occ_book.proofs.TableEntries.{backward-key}
use Rattle.occ_book.proofs.Common.{map-append}

neither : (a b : Bool) → b ≡ false → (a && b) ≡ false
neither true b e = e
neither false b e = refl

-- no number lies from 0 on and below 0
pub none-within : (es : List (ℕ × Row)) → pages.within (Some 0) (Some 0) es ≡ []
none-within [] = refl
none-within (e ∷ es) =
    let least : 0 ≤ e.0 = omega arith in
    let out = neither (nat_le 0 e.0) (nat_lt e.0 0) (le-ltb e.0 0 least) in
    (λ i. cond (out i) (e ∷ pages.within (Some 0) (Some 0) es) (none-within es i))

-- an end is not above itself
pub itself-forward : (end : Option Key) → is_backward end end ≡ false
itself-forward None = refl
itself-forward (Some key) = ap is_gt (tied_itself key_cmp_total key)

contradict : (a : Bool) → (a && not a) ≡ false
contradict true = refl
contradict false = refl

-- no key lies from an end on and below it
above_itself : (key : Key) (other : Key) → is_within (Some key) (Some key) other ≡ false
above_itself key other = contradict (is_le (key_cmp key other))

-- nor from the upper end of a range that runs backwards on and below it
pub empty-same : (lower upper : Option Key) (key : Key) → is_backward lower upper ≡ true → is_within upper upper key ≡ is_within lower upper key
empty-same None upper key e = cc
empty-same (Some low) None key e = cc
empty-same (Some low) (Some high) key e = above_itself high key ∙ sym (backward-key (Some low) (Some high) key e)

-- where no row is left, none was from there on
no_first : (rows : List (Key × Row)) → first_key rows ≡ None → rows ≡ []
no_first [] e = refl
no_first (row ∷ rows) e = cc

pub skipped_all : (all rows new : List (Key × Row)) (done count : ℕ) → rows ≡ drop done all → first_key rows ≡ None → new ≡ drop 1 rows → done ≤ count → new ≡ drop count all
skipped_all all rows new done count at none is h =
    let empty = no_first rows none in
    let short : length all ≤ done = omega (arith, length-drop done all, ap length (sym at ∙ empty)) in
    let past : length all ≤ count = omega arith in
    is ∙ ap (drop 1) empty ∙ sym (drop_all count all past)

-- a list that has a last row
split-last : (ys : List (Key × Row)) (x : Key × Row) → last_key (ys ++ x ∷ []) ≡ Some x.0
split-last ys x =
    let long : length (ys ++ x ∷ []) - 1 ≡ length ys = omega (arith, length-append ys (x ∷ [])) in
    ap (λ n. first_key (drop n (ys ++ x ∷ []))) long
    ∙ ap first_key (drop-append-le (length ys) ys (x ∷ []) (omega arith) ∙ ap (λ zs. zs ++ x ∷ []) (drop_all (length ys) ys (omega arith)))

split-rest : (ys : List (Key × Row)) (x : Key × Row) → take (length (ys ++ x ∷ []) - 1) (ys ++ x ∷ []) ≡ ys
split-rest ys x =
    let long : length (ys ++ x ∷ []) - 1 ≡ length ys = omega (arith, length-append ys (x ∷ [])) in
    ap (λ n. take n (ys ++ x ∷ [])) long ∙ take-append-le (length ys) ys (x ∷ []) (omega arith) ∙ take_all (length ys) ys (omega arith)

-- where there is no last key, there is no row
no_last : (rows : List (Key × Row)) → last_key rows ≡ None → length rows ≡ 0
no_last rows e =
    let empty = no_first (drop (length rows - 1) rows) e in
    omega (arith, length-drop (length rows - 1) rows, ap length empty)

without_last : (rows : List (Key × Row)) → length rows ≡ 0 → last_key rows ≡ None
without_last [] e = refl
without_last (row ∷ rows) e = absurd (omega arith)

pub backed-none : (all : List (Key × Row)) → all ≡ take (length all - 0) all
backed-none all =
    let whole : length all ≤ length all - 0 = omega arith in
    sym (take_all (length all - 0) all whole)

-- one more row is taken from the end
pub backed-more : (all rows new : List (Key × Row)) (done : ℕ) → rows ≡ take (length all - done) all → new ≡ take (length rows - 1) rows → new ≡ take (length all - (done + 1)) all
backed-more all rows new done at is =
    let within : length all - done ≤ length all = omega arith in
    let long : length rows ≡ length all - done = ap length at ∙ length-take-le (length all - done) all within in
    let fewer : length rows - 1 ≤ length all - done = omega (arith, long) in
    let many : length rows - 1 ≡ length all - (done + 1) = omega (arith, long) in
    is ∙ ap (take (length rows - 1)) at ∙ take-take (length rows - 1) (length all - done) all fewer ∙ ap (λ n. take n all) many

pub backed-all : (all rows new : List (Key × Row)) (done count : ℕ) → rows ≡ take (length all - done) all → last_key rows ≡ None → new ≡ take (length rows - 1) rows → done ≤ count → new ≡ take (length all - count) all
backed-all all rows new done count at none is h =
    let within : length all - done ≤ length all = omega arith in
    let long : length rows ≡ length all - done = ap length at ∙ length-take-le (length all - done) all within in
    let empty = no_last rows none in
    let past : length all - count ≡ 0 = omega (arith, long, empty) in
    let gone : length rows - 1 ≡ 0 = omega (arith, empty) in
    is ∙ ap (λ n. take n rows) gone ∙ sym (ap (λ n. take n all) past)

-- the first of what is left where the rest is cut behind it
first_taken : (place : ℕ) (rows : List (Key × Row)) → first_key (drop place (take (suc place) rows)) ≡ first_key (drop place rows)
first_taken zero [] = refl
first_taken zero (row ∷ rows) = refl
first_taken (suc place) [] = refl
first_taken (suc place) (row ∷ rows) = first_taken place rows

-- the last of the first rows
last_taken : (place : ℕ) (rows : List (Key × Row)) → suc place ≤ length rows → last_key (take (suc place) rows) ≡ first_key (drop place rows)
last_taken place rows within =
    let long : length (take (suc place) rows) - 1 ≡ place = omega (arith, length-take-le (suc place) rows within) in
    ap (λ n. first_key (drop n (take (suc place) rows))) long ∙ first_taken place rows

-- the end of the range stands in for a next row that is missing
end_or : (definition : Table) (key : Key) (next upper : Option Key) → end_behind definition key (option_or next upper) ≡ option_or (end_behind definition key next) upper
end_or definition key next upper = by (check_key_in definition (key_after key))
  where
    by : (check : Option Fault) → elim check as (λ _. Option Key) [ None ↦ Some (key_after key) | Some fault ↦ option_or next upper ]
        ≡ option_or (elim check as (λ _. Option Key) [ None ↦ Some (key_after key) | Some fault ↦ next ]) upper
    by None = refl
    by (Some fault) = refl

-- where what a first page asks for ends, by the keys of the two rows behind the page
pub ends-behind : (definition : Table) (upper : Option Key) (left : List (Key × Row)) (key : Key) → first_key left ≡ Some key
    → option_or (end_behind definition key (first_key (drop 1 left))) upper ≡ first_end definition upper left
ends-behind definition upper [] key e = cc
ends-behind definition upper (row ∷ rows) key e =
    let same : key ≡ row.0 = cc e in
    ap (λ k. option_or (end_behind definition k (first_key rows)) upper) same ∙ sym (end_or definition row.0 (first_key rows) upper)

-- a last page is cut so: its rest, and where what it asks for begins
abbrev IsLastCut : ℕ → Option Key → List (Key × Row) → Option Key → Option Key → Type 0
IsLastCut size lower all rest asked = (rest ≡ (last_in size all).1) × (option_or asked lower ≡ last_begin lower (length all - size) all)

-- Where it is cut, by what is left once its rows are taken from the end: but for its first one, and then without that.
module _ (most : ℕ) (lower : Option Key) (all but_first others : List (Key × Row))
    (first : but_first ≡ take (length all - (page_size most - 1)) all) (before : others ≡ take (length but_first - 1) but_first) where
  abbrev size : ℕ
  size = page_size most

  long_first : length but_first ≡ length all - (size - 1)
  long_first =
      let within : length all - (size - 1) ≤ length all = omega arith in
      ap length first ∙ length-take-le (length all - (size - 1)) all within

  -- what is left then stands before the page
  others_are : others ≡ take (length all - size) all
  others_are =
      let some = some_size most in
      let whole : size - 1 + 1 ≡ size = omega (arith, some) in
      backed-more all but_first others (size - 1) first before ∙ ap (λ n. take (length all - n) all) whole

  long_others : length others ≡ length all - size
  long_others =
      let within : length all - size ≤ length all = omega arith in
      ap length others_are ∙ length-take-le (length all - size) all within

  -- where none stands there, it is the whole range
  uncut : length all - size ≡ 0 → IsLastCut size lower all None None
  uncut none = (sym (ap (λ n. (last_behind n all).1) none), sym (ap (λ n. last_begin lower n all) none))

  pub none-shown : last_key but_first ≡ None → IsLastCut size lower all None None
  none-shown none =
      let some = some_size most in
      let empty = no_last but_first none in
      uncut (omega (arith, empty, long_first, some))

  pub none-before : last_key others ≡ None → IsLastCut size lower all None None
  none-before none =
      let empty = no_last others none in
      uncut (omega (arith, empty, long_others))

  -- and else its own first row is its rest, and what it asks for begins with the row before
  pub one-before : (key : Key) → last_key others ≡ Some key → IsLastCut size lower all (last_key but_first) (Some key)
  one-before key there = by (length all - size) refl
    where
      by : (place : ℕ) → length all - size ≡ place → IsLastCut size lower all (last_key but_first) (Some key)
      by zero none = cc (there, without_last others (omega (arith, long_others, none)))
      by (suc place) count =
          let some = some_size most in
          let within : suc place ≤ length all = omega (arith, count) in
          let more : suc (suc place) ≤ length all = omega (arith, count, some) in
          let left : length all - (size - 1) ≡ suc (suc place) = omega (arith, count, some) in (
            ap last_key (first ∙ ap (λ n. take n all) left) ∙ last_taken (suc place) all more ∙ ap (λ n. (last_behind n all).1) (sym count),
            sym there ∙ ap last_key (others_are ∙ ap (λ n. take n all) count) ∙ last_taken place all within ∙ ap (λ n. last_begin lower n all) (sym count),
          )

module _ {Z : Type 0} where
  -- the last row of a table is the last one under another key
  pub other-taken : (numbers : List (ℕ × Row)) (old new : List (code_key.Key Z × Row)) (e : code_key.Key Z × Row) → old ≡ new ++ e ∷ []
      → (last_key (rows_in numbers old) ≡ Some (key_of e.0)) × (take (length (rows_in numbers old) - 1) (rows_in numbers old) ≡ rows_in numbers new)
  other-taken numbers old new e is =
      let shown : rows_in numbers old ≡ rows_in numbers new ++ seen e ∷ [] =
      ap (λ es. map numbered numbers ++ rows_of es) is
      ∙ ap (λ es. map numbered numbers ++ es) (map-append seen new (e ∷ []))
      ∙ sym (append_assoc (map numbered numbers) (rows_of new) (seen e ∷ [])) in
      (ap last_key shown ∙ split-last (rows_in numbers new) (seen e), ap (λ rows. take (length rows - 1) rows) shown ∙ split-rest (rows_in numbers new) (seen e))

  -- or else the last one under a number
  pub number-taken : (old new : List (ℕ × Row)) (e : ℕ × Row) (others left : List (code_key.Key Z × Row)) → others ≡ [] → left ≡ [] → old ≡ new ++ e ∷ []
      → (last_key (rows_in old others) ≡ Some (Num e.0)) × (take (length (rows_in old others) - 1) (rows_in old others) ≡ rows_in new left)
  number-taken old new e others left none gone is =
      let shown : rows_in old others ≡ rows_in new left ++ numbered e ∷ [] =
      (λ i. map numbered (is i) ++ rows_of (none i))
      ∙ append-nil (map numbered (new ++ e ∷ []))
      ∙ map-append numbered new (e ∷ [])
      ∙ ap (λ es. es ++ numbered e ∷ []) (sym (append-nil (map numbered new)) ∙ (λ i. map numbered new ++ rows_of (sym gone i))) in
      (ap last_key shown ∙ split-last (rows_in new left) (numbered e), ap (λ rows. take (length rows - 1) rows) shown ∙ split-rest (rows_in new left) (numbered e))

  -- or else there is none
  pub none-taken : (old new : List (ℕ × Row)) (others left : List (code_key.Key Z × Row)) → others ≡ [] → left ≡ [] → old ≡ [] → new ≡ []
      → (last_key (rows_in old others) ≡ None) × (take (length (rows_in old others) - 1) (rows_in old others) ≡ rows_in new left)
  none-taken old new others left none gone empty still =
      (λ i. last_key (rows_in (empty i) (none i)), (λ i. take (length (rows_in (empty i) (none i)) - 1) (rows_in (empty i) (none i))) ∙ (λ i. rows_in (sym still i) (sym gone i)))
