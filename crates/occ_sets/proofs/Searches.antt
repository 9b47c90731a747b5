-- A range is found by one search among objects in order.
use Rattle.std.proofs.Common.{◌≡◌, ◌<◌, ◌≤◌, ◌⊎◌, ℕ, Bool, true, false, not, ◌&&◌, ◌||◌, nat_lt, nat_eq, List, Option, None, Some, length, get_or, refl, sym, ap, subst₂, ◌∙◌, inl, inr, arith}
use Rattle.std.proofs.lemmas.Bool.Decides.{nat_tests}
use Rattle.std.proofs.lemmas.Cmp.{upto}
use Rattle.std.proofs.lemmas.List.Elements.{All-from_get_or}
use Rattle.std.proofs.lemmas.List.Folds.{list_any_at, list_any_none}
use Rattle.std.proofs.lemmas.List.Sorted.{ranks_by, sorted_far}
use Rattle.std.specs.List.{list_any}
use Rattle.std.specs.List.Sorted.{IsPartitionedBy, IsPartitionPoint}
use Rattle.std.specs.Prelude.{IsSorted}
use Rattle.std.specs.declared.cmp.Ordering.{Ordering}
use Rattle.std.specs.declared.cmp.Ordering.TheVariants.{Less, Equal, Greater}
use Rattle.std.specs.Cmp.{ranks}
use Rattle.std.specs.Ordering.{MatchOrdering, is_gt, is_le, is_lt, nat_cmp, on, ordering_reverse, ordering_then}
use Rattle.occ_types.specs.declared.objects.Object as code
use Rattle.occ_types.specs.Key.{Key, key_cmp, key_cmp_total}
use Rattle.occ_types.specs.Object.{Object, object_cmp, object_cmp_total}
use Rattle.occ_types.specs.Question.{Question, One, Span, asks, is_below, is_from}
use Rattle.occ_types.specs.PlainData.{object_of}
use Rattle.occ_sets.specs.InOrder.{IsRangeFrom, stands_before}

le_gt : (r : Ordering) → is_le r ≡ not (is_gt r)
le_gt Less = refl
le_gt Equal = refl
le_gt Greater = refl

reversed : (r : Ordering) → is_gt (ordering_reverse r) ≡ is_lt r
reversed Less = refl
reversed Equal = refl
reversed Greater = refl

unturned : (b : Bool) → not b ≡ true → b ≡ false
unturned true h = sym h
unturned false h = refl

turned : (b : Bool) → not b ≡ false → b ≡ true
turned true h = refl
turned false h = sym h

-- from a <= b, and c not below b, a <= c
le_up : (a b c : Key) → is_le (key_cmp a b) ≡ true → is_lt (key_cmp c b) ≡ false → is_le (key_cmp a c) ≡ true
le_up a b c low up =
    let first : is_gt (key_cmp a b) ≡ false = unturned (is_gt (key_cmp a b)) (sym (le_gt (key_cmp a b)) ∙ low) in
    let second : is_gt (key_cmp b c) ≡ false = ap is_gt (key_cmp_total.antisymm b c) ∙ reversed (key_cmp c b) ∙ up in
    le_gt (key_cmp a c) ∙ ap not (upto key_cmp_total a b c first second)

-- the lower end lies above no key that is not below one that it lies not above
from_up : (lower : Option Key) (x y : Key) → is_from lower x ≡ true → is_lt (key_cmp y x) ≡ false → is_from lower y ≡ true
from_up None x y h up = refl
from_up (Some end) x y h up = le_up end x y h up

-- and the upper end likewise
below_up : (upper : Option Key) (x y : Key) → is_below upper x ≡ false → is_lt (key_cmp y x) ≡ false → is_below upper y ≡ false
below_up None x y h up = h
below_up (Some end) x y h up = ap not (le_up end x y (turned (is_le (key_cmp end x)) h) up)

-- an object that is not below another has a greater table, or the same one and a key that is not below
not_below : (x y : Object) → is_lt (object_cmp y x) ≡ false → (x.0 < y.0) ⊎ ((x.0 ≡ y.0) × (is_lt (key_cmp y.1 x.1) ≡ false))
not_below x y h = by (nat_cmp y.0 x.0) (ranks y.0 x.0) h
  where
    by : (r : Ordering) → MatchOrdering r (y.0 < x.0) (y.0 ≡ x.0) (x.0 < y.0) → is_lt (ordering_then r (key_cmp y.1 x.1)) ≡ false → (x.0 < y.0) ⊎ ((x.0 ≡ y.0) × (is_lt (key_cmp y.1 x.1) ≡ false))
    by Less m h = cc
    by Equal m h = inr (sym m, h)
    by Greater m h = inl m

-- a place past all is not below their number
pub past_all : (i n : ℕ) → n ≤ i → nat_lt i n ≡ false
past_all i n h = grind (arith, nat_tests)

apart : (t u : ℕ) → nat_lt u t ≡ true → nat_eq u t ≡ false
apart t u h = grind (arith, nat_tests)

-- what stands before a range is not asked for
pub before_unasked : (t : ℕ) (lower upper : Option Key) (o : Object) → stands_before t lower o ≡ true → asks (Span t lower upper) o ≡ false
unfolding asks
before_unasked t lower upper o h = by (nat_lt o.0 t) (nat_eq o.0 t) (is_from lower o.1) (apart t o.0) h
  where
    by : (l e f : Bool) → (l ≡ true → e ≡ false) → (l || (e && not f)) ≡ true → (e && (f && is_below upper o.1)) ≡ false
    by true e f other h = ap (λ e. e && (f && is_below upper o.1)) (other refl)
    by false true true other h = cc
    by false true false other h = refl
    by false false f other h = refl

-- what neither stands before a range nor is asked for stands behind it, with all that is not below
pub behind_unasked : (t : ℕ) (lower upper : Option Key) (x y : Object) → stands_before t lower x ≡ false → asks (Span t lower upper) x ≡ false → is_lt (object_cmp y x) ≡ false → asks (Span t lower upper) y ≡ false
unfolding asks
behind_unasked t lower upper x y before unasked up = by (nat_eq y.0 t) refl (not_below x y up)
  where
    same : (l f b : Bool) → (l || (true && not f)) ≡ false → (true && (f && b)) ≡ false → b ≡ false
    same true f b before unasked = cc
    same false true b before unasked = unasked
    same false false b before unasked = cc

    by : (e : Bool) → nat_eq y.0 t ≡ e → (x.0 < y.0) ⊎ ((x.0 ≡ y.0) × (is_lt (key_cmp y.1 x.1) ≡ false)) → (nat_eq y.0 t && (is_from lower y.1 && is_below upper y.1)) ≡ false
    by false e w = ap (λ e. e && (is_from lower y.1 && is_below upper y.1)) e
    by true e (inl w) =
        let lower_table : nat_lt x.0 t ≡ true = grind (arith, nat_tests, e, w) in
        let here : stands_before t lower x ≡ true = ap (λ l. l || (nat_eq x.0 t && not (is_from lower x.1))) lower_table in
        cc
    by true e (inr w) =
        let table : nat_eq x.0 t ≡ true = ap (λ n. nat_eq n t) w.0 ∙ e in
        let b : is_below upper x.1 ≡ false = same (nat_lt x.0 t) (is_from lower x.1) (is_below upper x.1)
        (ap (λ e. nat_lt x.0 t || (e && not (is_from lower x.1))) (sym table) ∙ before)
        (ap (λ e. e && (is_from lower x.1 && is_below upper x.1)) (sym table) ∙ unasked) in
        ends (nat_eq y.0 t) (is_from lower y.1) (is_below upper y.1) (below_up upper x.1 y.1 b w.1)
      where
        ends : (e f b : Bool) → b ≡ false → (e && (f && b)) ≡ false
        ends true true b h = h
        ends true false b h = refl
        ends false f b h = refl

-- what stands before a range has before it all that is not above
pub before_falls : (t : ℕ) (lower : Option Key) (x y : Object) → stands_before t lower y ≡ true → is_lt (object_cmp y x) ≡ false → stands_before t lower x ≡ true
before_falls t lower x y before up = by (nat_lt x.0 t) refl (not_below x y up)
  where
    by : (l : Bool) → nat_lt x.0 t ≡ l → (x.0 < y.0) ⊎ ((x.0 ≡ y.0) × (is_lt (key_cmp y.1 x.1) ≡ false)) → (nat_lt x.0 t || (nat_eq x.0 t && not (is_from lower x.1))) ≡ true
    by true e w = ap (λ l. l || (nat_eq x.0 t && not (is_from lower x.1))) e
    by false e (inl w) =
        let above : nat_lt y.0 t ≡ false = grind (arith, nat_tests, e, w) in
        let other : nat_eq y.0 t ≡ false = grind (arith, nat_tests, e, w) in
        let out : stands_before t lower y ≡ false = λ i. above i || (other i && not (is_from lower y.1)) in
        cc
    by false e (inr w) =
        let here : (nat_lt x.0 t || (nat_eq x.0 t && not (is_from lower y.1))) ≡ true = ap (λ n. nat_lt n t || (nat_eq n t && not (is_from lower y.1))) w.0 ∙ before in
        down (nat_lt x.0 t) (nat_eq x.0 t) (is_from lower x.1) (is_from lower y.1) (λ h. from_up lower x.1 y.1 h w.1) here
      where
        down : (l e f g : Bool) → (f ≡ true → g ≡ true) → (l || (e && not g)) ≡ true → (l || (e && not f)) ≡ true
        down true e f g up h = refl
        down false true true g up h =
            let gone : not g ≡ false = ap not (up refl) in
            cc
        down false true false g up h = refl
        down false false f g up h = h

module _ {Z : Type 0} where
  -- no object that stands before a range comes after one that does not
  pub parted : (t : ℕ) (lower : Option Key) (os : List (code.Object Z)) → IsSorted (on object_of object_cmp) os → IsPartitionedBy (λ o. stands_before t lower (object_of o)) os
  parted t lower os sorted i j d le lt here =
      before_falls t lower (object_of (get_or os i d)) (object_of (get_or os j d)) here
      (sorted_far (λ x y. is_lt (object_cmp (object_of x) (object_of y))) (ranks_by object_cmp_total object_of) os sorted i j d le lt)

  -- where all objects stand before a range, it asks for none of them
  pub none_asked : (t : ℕ) (lower upper : Option Key) (os : List (code.Object Z)) (i : ℕ) → IsPartitionPoint (λ o. stands_before t lower (object_of o) ≡ true) (λ o. stands_before t lower (object_of o) ≡ false) os i
      → length os ≤ i → list_any (λ o. asks (Span t lower upper) (object_of o)) os ≡ false
  none_asked t lower upper os i point all =
      list_any_none (λ o. asks (Span t lower upper) (object_of o)) os (λ k d m. before_unasked t lower upper (object_of (get_or os k d)) (point.0 k d (omega arith) (omega (arith, all, m))))

  -- and else it asks for some object where it asks for the first that does not stand before it
  pub first_asked : (t : ℕ) (lower upper : Option Key) (os : List (code.Object Z)) (i : ℕ) (o : code.Object Z) → IsSorted (on object_of object_cmp) os
      → IsPartitionPoint (λ o. stands_before t lower (object_of o) ≡ true) (λ o. stands_before t lower (object_of o) ≡ false) os i
      → i < length os → o ≡ get_or os i o → list_any (λ o. asks (Span t lower upper) (object_of o)) os ≡ asks (Span t lower upper) (object_of o)
  first_asked t lower upper os i o sorted point lt here = by (asks (Span t lower upper) (object_of o)) refl
    where
      behind : asks (Span t lower upper) (object_of o) ≡ false → (k : ℕ) → k < length os → asks (Span t lower upper) (object_of (get_or os k o)) ≡ false
      behind none k m = turn (nat_lt k i) refl
        where
          turn : (b : Bool) → nat_lt k i ≡ b → asks (Span t lower upper) (object_of (get_or os k o)) ≡ false
          turn true e = before_unasked t lower upper (object_of (get_or os k o)) (point.0 k o (omega arith) (grind (arith, nat_tests, e)))
          turn false e =
              let from : i ≤ k = grind (arith, nat_tests, e) in
              let up : is_lt (object_cmp (object_of (get_or os k o)) (object_of (get_or os i o))) ≡ false =
              sorted_far (λ x y. is_lt (object_cmp (object_of x) (object_of y))) (ranks_by object_cmp_total object_of) os sorted i k o from m in
              behind_unasked t lower upper (object_of o) (object_of (get_or os k o))
              (ap (λ o. stands_before t lower (object_of o)) here ∙ point.1 i o (omega arith) lt)
              none
              (ap (λ x. is_lt (object_cmp (object_of (get_or os k o)) (object_of x))) here ∙ up)

      by : (b : Bool) → asks (Span t lower upper) (object_of o) ≡ b → list_any (λ o. asks (Span t lower upper) (object_of o)) os ≡ b
      by true e = list_any_at (λ o. asks (Span t lower upper) (object_of o)) os i o lt (ap (λ o. asks (Span t lower upper) (object_of o)) (sym here) ∙ e)
      by false e = list_any_none (λ o. asks (Span t lower upper) (object_of o)) os (All-from_get_or (λ o. asks (Span t lower upper) (object_of o) ≡ false) os o (behind e))

  -- and so for a question that asks for a range from that lower end on
  pub range_none : (question : Question) (t : ℕ) (lower : Option Key) → IsRangeFrom t lower question → (os : List (code.Object Z)) (i : ℕ)
      → IsPartitionPoint (λ o. stands_before t lower (object_of o) ≡ true) (λ o. stands_before t lower (object_of o) ≡ false) os i
      → length os ≤ i → list_any (λ o. asks question (object_of o)) os ≡ false
  range_none (One table key) t lower is os i point all = absurd is
  range_none (Span table end upper) t lower is os i point all =
      none_asked table end upper os i (subst₂ (λ u e. IsPartitionPoint (λ o. stands_before u e (object_of o) ≡ true) (λ o. stands_before u e (object_of o) ≡ false) os i) (sym is.0) (sym is.1) point) all

  pub range_first : (question : Question) (t : ℕ) (lower : Option Key) → IsRangeFrom t lower question → (os : List (code.Object Z)) (i : ℕ) (o : code.Object Z) → IsSorted (on object_of object_cmp) os
      → IsPartitionPoint (λ o. stands_before t lower (object_of o) ≡ true) (λ o. stands_before t lower (object_of o) ≡ false) os i
      → i < length os → o ≡ get_or os i o → list_any (λ o. asks question (object_of o)) os ≡ asks question (object_of o)
  range_first (One table key) t lower is os i o sorted point lt here = absurd is
  range_first (Span table end upper) t lower is os i o sorted point lt here =
      first_asked table end upper os i o sorted (subst₂ (λ u e. IsPartitionPoint (λ o. stands_before u e (object_of o) ≡ true) (λ o. stands_before u e (object_of o) ≡ false) os i) (sym is.0) (sym is.1) point) lt here
