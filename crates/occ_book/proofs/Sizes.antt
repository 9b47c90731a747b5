-- How many rows stand in all tables.
use Rattle.std.proofs.Common.{◌≡◌, ℕ, suc, ◌+◌, ◌<◌, min, Bool, true, false, ◌&&◌, T, List, [], ◌∷◌, ◌++◌, length, drop, get_or, ◌≤◌, refl, sym, ap, subst, ◌∙◌, arith, length-append, Less, is_lt}
use Rattle.occ_book.proofs.Common.{length-map, drop_more, IsStrictlySortedBy, keys_of, ordering_then, nat_cmp_is, from_sorted, entries, is_sorted, get-from_entries, get-from_sorted, entries-from_sorted, len-entries, below_all, Key, key_cmp, Object, object_cmp, object_cmp_total, Row, same_state, Content, placed, placed_from, state_of, content_of}
use Rattle.std.proofs.Math.ListN.{drop_of_length-le}
use Rattle.std.specs.FinMap as finite
use Rattle.occ_book.proofs.Views.{both_hold, sorted-placed}

first : (a b : Bool) → T (a && b) → T a
first true b p = tt
first false b p = p

second : (a b : Bool) → T (a && b) → T b
second true b p = p
second false b p = absurd p

below-append : (o : Object) (xs ys : List (Object × Row)) → T (below_all object_cmp o xs) → T (below_all object_cmp o ys) → T (below_all object_cmp o (xs ++ ys))
below-append o [] ys p q = q
below-append o (x ∷ xs) ys p q = both_hold _ _ (first _ _ p) (below-append o xs ys (second _ _ p) q)

-- objects of an earlier table come before those of a later one
earlier : (i j : ℕ) (k l : Key) → i < j → T (is_lt (object_cmp (i, k) (j, l)))
earlier i j k l less = subst (λ o. T (is_lt (ordering_then o (key_cmp k l)))) (nat_cmp_is i j Less less) tt

below-table : (i j : ℕ) (k : Key) (es : List (Key × Row)) → i < j → T (below_all object_cmp (i, k) (placed j es))
below-table i j k [] less = tt
below-table i j k (e ∷ es) less = both_hold _ _ (earlier i j k (e.0) less) (below-table i j k es less)

below-tables : (i j : ℕ) (k : Key) (ms : List (List (Key × Row))) → i < j → T (below_all object_cmp (i, k) (placed_from j ms))
below-tables i j k [] less = tt
below-tables i j k (m ∷ ms) less = below-append (i, k) (placed j m) (placed_from (suc j) ms) (below-table i j k m less) (below-tables i (suc j) k ms (omega arith))

sorted-joined : (i : ℕ) (es : List (Key × Row)) (ys : List (Object × Row)) → T (is_sorted object_cmp (placed i es)) → T (is_sorted object_cmp ys) → ((k : Key) → T (below_all object_cmp (i, k) ys)) → T (is_sorted object_cmp (placed i es ++ ys))
sorted-joined i [] ys p q below = q
sorted-joined i (e ∷ es) ys p q below =
    both_hold _ _ (below-append (i, e.0) (placed i es) ys (first _ _ p) (below (e.0))) (sorted-joined i es ys (second _ _ p) q below)

-- the keys of each table are in order
abbrev pub AreOrdered : List (List (Key × Row)) → Type 0
AreOrdered [] = Unit {0}
AreOrdered (m ∷ ms) = IsStrictlySortedBy key_cmp (keys_of m) × AreOrdered ms

abbrev pub total : List (List (Key × Row)) → ℕ
total [] = 0
total (m ∷ ms) = length m + total ms

sorted-tables : (i : ℕ) (ms : List (List (Key × Row))) → AreOrdered ms → T (is_sorted object_cmp (placed_from i ms))
sorted-tables i [] ordered = tt
sorted-tables i (m ∷ ms) ordered =
    sorted-joined i m (placed_from (suc i) ms) (sorted-placed i m ordered.0) (sorted-tables (suc i) ms ordered.1) (λ k. below-tables i (suc i) k ms (omega arith))

length-tables : (i : ℕ) (ms : List (List (Key × Row))) → length (placed_from i ms) ≡ total ms
length-tables i [] = refl
length-tables i (m ∷ ms) =
    length-append (placed i m) (placed_from (suc i) ms)
    ∙ (λ j. length-map {B = Object × Row} m (λ e. ((i, e.0), e.1)) j + length-tables (suc i) ms j)

-- the state has as many rows as the tables have together
len-tables : (ms : List (List (Key × Row))) → AreOrdered ms → finite.len (state_of ms) ≡ total ms
unfolding state_of
len-tables ms ordered =
    let sorted = sorted-tables 0 ms ordered in
    len-entries (finite.from_entries (placed_from 0 ms))
    ∙ ap (λ m. length (entries m)) (same_state (finite.from_entries (placed_from 0 ms)) (from_sorted (placed_from 0 ms)) (λ o. get-from_entries object_cmp_total (placed_from 0 ms) o ∙ sym (get-from_sorted object_cmp (placed_from 0 ms) o sorted)))
    ∙ ap length (entries-from_sorted object_cmp (placed_from 0 ms) sorted)
    ∙ length-tables 0 ms

-- what a sum over the first tables says
pub record IsSummed (limit place rows : ℕ) (ms : List (List (Key × Row))) : Type 0 where
  pub counted : min (rows + total (drop place ms)) limit ≡ min (total ms) limit
  pub within : rows ≤ limit
  pub ordered : AreOrdered (drop place ms) → AreOrdered ms

pub summed-none : (limit : ℕ) (ms : List (List (Key × Row))) → IsSummed limit 0 0 ms
summed-none limit ms =
    let same : 0 + total ms ≡ total ms = omega arith in
    record { counted = ap (λ n. min n limit) same; within = omega arith; ordered = λ o. o }

pub summed-more : (limit place rows : ℕ) (ms : List (List (Key × Row))) (m : List (Key × Row)) → IsSummed limit place rows ms → place < length ms → m ≡ get_or ms place m → IsStrictlySortedBy key_cmp (keys_of m)
    → (next : ℕ) → next ≡ min (rows + length m) limit → IsSummed limit (place + 1) next ms
summed-more limit place rows ms m so_far less is ordered next sum =
    let split : drop place ms ≡ m ∷ drop (place + 1) ms = drop_more ms place m less ∙ ap (λ x. x ∷ drop (place + 1) ms) (sym is) in
    record {
      counted = added limit rows (length m) (total (drop (place + 1) ms)) next sum ∙ ap (λ l. min (rows + total l) limit) (sym split) ∙ so_far.counted;
      within = omega arith;
      ordered = λ others. so_far.ordered (subst AreOrdered (sym split) (ordered, others));
    }
  where
    added : (limit a b c next : ℕ) → next ≡ min (a + b) limit → min (next + c) limit ≡ min (a + (b + c)) limit
    added limit a b c next e = omega arith

pub summed-all : (limit place rows : ℕ) (ms : List (List (Key × Row))) (old : Content) → content_of ms ≡ old → IsSummed limit place rows ms → length ms ≤ place → rows ≡ min (finite.len old.state) limit
summed-all limit place rows ms old view so_far past =
    let none : drop place ms ≡ [] = drop_of_length-le ms past in
    let e = ap (λ l. min (rows + total l) limit) (sym none) ∙ so_far.counted in
    let w = so_far.within in
    let sum : rows ≡ min (total ms) limit = last rows limit (total ms) w e in
    sum ∙ ap (λ n. min n limit) (sym (len-tables ms (so_far.ordered (subst AreOrdered (sym none) tt)))) ∙ ap (λ (c : Content). min (finite.len c.state) limit) view
  where
    last : (rows limit all : ℕ) → rows ≤ limit → min (rows + 0) limit ≡ min all limit → rows ≡ min all limit
    last rows limit all w e = omega arith
