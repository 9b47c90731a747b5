-- The laws of questions: what each asks for, and what a range is answered.
use Rattle.std.proofs.Common.{◌≡◌, ◌↔◌, ◌⊎◌, ◌==◌, ℕ, zero, suc, Bool, true, false, cond, not, ◌&&◌, T, List, [], ◌∷◌, map, Option, None, Some, IfSome, Contains, Ordering, refl, sym, ap, subst, ◌∙◌, inl, inr, le_of_suc-le-suc, suc-le-suc, arith}
use Rattle.std.proofs.lemmas.Bool.{eqb-true, eq-eqb}
use Rattle.std.specs.declared.cmp.Ordering.TheVariants.{Less, Equal, Greater}
use Rattle.std.specs.Ordering.{nat_cmp, is_eq, is_le, is_lt, ordering_then, ordering_reverse}
use Rattle.std.specs.Cmp.{nat_cmp_total, tied_itself}
use Rattle.std.specs.List.{AllByRecursion}
use Rattle.std.specs.List.Sorted.{IsStrictlySortedBy}
use Rattle.std.specs.FinMap.{get, retain_keys, entries, entries_sorted, find, is_sorted, get-entries, get-retain_keys}
use Rattle.std.specs.FinMap.Entries.{below_all}
use Rattle.occ_types.specs.Key.{Key, key_cmp, key_cmp_total}
use Rattle.occ_types.specs.Object.{Object, object_cmp, object_cmp_total, object_cmp-IsAntisymmetric}
use Rattle.occ_types.specs.Question.{Question, Span, asks, InRange, is_from, is_below}
use Rattle.occ_types.specs.Row.{Row}
use Rattle.occ_model.specs.State.{State, Rows, answer}
use Rattle.occ_model.specs.RangeLaws.{AsksOne, AsksRange, AnswersRange}
use Rattle.occ_model.proofs.Tests.{and_true, both_true, decided}
use Rattle.occ_model.proofs.States.{same, same_object}

-- What a question asks for.

-- an object is the same as itself
pub same_itself : (a : Object) → same a a ≡ true
same_itself a = ap is_eq (tied_itself object_cmp_total a)

-- equal objects are the same
pub same_of_equal : (a b : Object) → a ≡ b → same a b ≡ true
same_of_equal a b e = ap (same a) (sym e) ∙ same_itself a

-- a question for one key asks for that object alone
pub asks_one : AsksOne
unfolding asks
asks_one table place key other = (
  λ e. let is = same_object (table, key) (place, other) e in (λ i. (sym is i).0, λ i. (sym is i).1),
  λ e. same_of_equal (table, key) (place, other) (λ i. (sym e.0 i, sym e.1 i)),
)

-- past an end means below it, seen from the other side
greater : (r : Ordering) → not (is_le r) ≡ true → ordering_reverse r ≡ Less
greater Less e = cc
greater Equal e = cc
greater Greater e = refl

-- and below it, seen from the key, means past the end
reversed : (r : Ordering) → ordering_reverse r ≡ Less → not (is_le r) ≡ true
reversed Less e = cc
reversed Equal e = cc
reversed Greater e = refl

-- the test of the lower end says what the range says
from_end : (lower : Option Key) (key : Key) → (is_from lower key ≡ true) ↔ IfSome lower (λ end. is_le (key_cmp end key) ≡ true)
from_end None key = (λ e. tt, λ h. refl)
from_end (Some end) key = (λ e. e, λ h. h)

-- and so does the test of the upper end
below_end : (upper : Option Key) (key : Key) → (is_below upper key ≡ true) ↔ IfSome upper (λ end. key_cmp key end ≡ Less)
below_end None key = (λ e. tt, λ h. refl)
below_end (Some end) key = (
  λ e. key_cmp_total.antisymm key end ∙ greater (key_cmp end key) e,
  λ h. reversed (key_cmp end key) (sym (key_cmp_total.antisymm key end) ∙ h),
)

-- a range asks for its keys alone
pub asks_range : AsksRange
unfolding asks
asks_range table place lower upper key = (
  λ e.
      let parts = and_true (place == table) (is_from lower key && is_below upper key) e in
      let ends = and_true (is_from lower key) (is_below upper key) parts.1 in
      (eqb-true place table parts.0, record { from = (from_end lower key).0 ends.0; below = (below_end upper key).0 ends.1 }),
  λ h. both_true (place == table) (is_from lower key && is_below upper key) (eq-eqb place table h.0)
      (both_true (is_from lower key) (is_below upper key) ((from_end lower key).1 h.1.from) ((below_end upper key).1 h.1.below)),
)

-- Elements of lists.

-- the head is an element
here : {X : Type 0} (y x : X) (ys : List X) → y ≡ x → Contains (y ∷ ys) x
here y x ys e = (0, omega arith, e)

-- an element of the tail is an element
there : {X : Type 0} (y x : X) (ys : List X) → Contains ys x → Contains (y ∷ ys) x
there y x ys c = (suc c.0, suc-le-suc c.1, c.2)

-- an element is the head or one of the tail
head_or_tail : {X : Type 0} (y x : X) (ys : List X) → Contains (y ∷ ys) x → (y ≡ x) ⊎ Contains ys x
head_or_tail y x ys (zero, h, e) = inl e
head_or_tail y x ys (suc k, h, e) = inr (k, le_of_suc-le-suc h, e)

-- the empty list has no element
empty_has_none : {X : Type 0} (x : X) → Contains [] x → ⊥
empty_has_none x c = omega (arith, c.1)

-- an element of a mapped list comes from an element
unmapped : {X Y : Type 0} (f : X → Y) (xs : List X) (y : Y) → Contains (map f xs) y → (x : X) × Contains xs x × (f x ≡ y)
unmapped f [] y c = absurd (empty_has_none y c)
unmapped {X} f (x ∷ xs) y c = go (head_or_tail (f x) y (map f xs) c) (unmapped f xs y)
  where
    go : (f x ≡ y) ⊎ Contains (map f xs) y → (Contains (map f xs) y → (z : X) × Contains xs z × (f z ≡ y)) → (z : X) × Contains (x ∷ xs) z × (f z ≡ y)
    go (inl e) later = (x, here x x xs refl, e)
    go (inr c) later = let found = later c in (found.0, there x found.0 xs found.1, found.2)

-- and an element gives one of the mapped list
mapped : {X Y : Type 0} (f : X → Y) (xs : List X) (x : X) → Contains xs x → Contains (map f xs) (f x)
mapped f [] x c = absurd (empty_has_none x c)
mapped f (z ∷ xs) x c = go (head_or_tail z x xs c) (mapped f xs x)
  where
    go : (z ≡ x) ⊎ Contains xs x → (Contains xs x → Contains (map f xs) (f x)) → Contains (map f (z ∷ xs)) (f x)
    go (inl e) later = here (f z) (f x) (map f xs) (ap f e)
    go (inr c) later = there (f z) (f x) (map f xs) (later c)

-- Entries in order.

-- the first of two tests that both hold
first_of_both : (a b : Bool) → T (a && b) → T a
first_of_both true b h = tt
first_of_both false b h = h

-- the second of them
second_of_both : (a b : Bool) → T (a && b) → T b
second_of_both true b h = h
second_of_both false b h = absurd h

-- an order that tests as less is less
less_is : (r : Ordering) → T (is_lt r) → r ≡ Less
less_is Less h = refl
less_is Equal h = absurd h
less_is Greater h = absurd h

-- objects with their rows
abbrev pub EntryList : Type 0
EntryList = List (Object × Row)

-- an object below all entries is not found among them
not_among : (object : Object) (es : EntryList) → T (below_all object_cmp object es) → find object_cmp object es ≡ None
not_among object [] below = refl
not_among object (e ∷ es) below =
    ap (λ r. cond (is_eq r) (Some e.1) (find object_cmp object es)) (less_is (object_cmp object e.0) (first_of_both (is_lt (object_cmp object e.0)) _ below))
    ∙ not_among object es (second_of_both (is_lt (object_cmp object e.0)) (below_all object_cmp object es) below)

-- nothing found is no row
some_is_none : {A : Type 0} (row : Row) → None ≡ Some row → A
some_is_none row e = cc

-- an entry of a list in order is found under its object
found : (es : EntryList) → T (is_sorted object_cmp es) → (object : Object) (row : Row) → Contains es (object, row) → find object_cmp object es ≡ Some row
found [] sorted object row c = absurd (empty_has_none (object, row) c)
found (e ∷ es) sorted object row c = go (head_or_tail e (object, row) es c) (found es rest object row)
  where
    below : T (below_all object_cmp e.0 es)
    below = first_of_both (below_all object_cmp e.0 es) (is_sorted object_cmp es) sorted

    rest : T (is_sorted object_cmp es)
    rest = second_of_both (below_all object_cmp e.0 es) (is_sorted object_cmp es) sorted

    go : (e ≡ (object, row)) ⊎ Contains es (object, row) → (Contains es (object, row) → find object_cmp object es ≡ Some row) → find object_cmp object (e ∷ es) ≡ Some row
    go (inl is) later = ap (λ b. cond b (Some e.1) (find object_cmp object es)) (same_of_equal object e.0 (λ i. (sym is i).0)) ∙ (λ i. Some (is i).1)
    go (inr c) later = decided (same object e.0)
        (λ t. some_is_none row (sym (ap (λ o. find object_cmp o es) (same_object object e.0 t) ∙ not_among e.0 es below) ∙ later c))
        (λ f. ap (λ b. cond b (Some e.1) (find object_cmp object es)) f ∙ later c)

-- what is found is an entry
among : (es : EntryList) (object : Object) (row : Row) → find object_cmp object es ≡ Some row → Contains es (object, row)
among [] object row is = some_is_none row is
among (e ∷ es) object row is = go (same object e.0) refl (among es object row)
  where
    go : (b : Bool) → same object e.0 ≡ b → (find object_cmp object es ≡ Some row → Contains es (object, row)) → Contains (e ∷ es) (object, row)
    go true t later =
        let at : Some e.1 ≡ Some row = sym (ap (λ b. cond b (Some e.1) (find object_cmp object es)) t) ∙ is in
        let value : e.1 ≡ row = cc in
        here e (object, row) es (λ i. (sym (same_object object e.0 t) i, value i))
    go false f later = there e (object, row) es (later (sym (ap (λ b. cond b (Some e.1) (find object_cmp object es)) f) ∙ is))

-- The entries of one table.

-- each entry is of this table
abbrev pub AllIn : ℕ → EntryList → Type 0
AllIn table [] = Unit {0}
AllIn table (e ∷ es) = (e.0.0 ≡ table) × AllIn table es

-- so it is where each element is
all_in : (table : ℕ) (es : EntryList) → ((e : Object × Row) → Contains es e → e.0.0 ≡ table) → AllIn table es
all_in table [] each = tt
all_in table (e ∷ es) each = (each e (here e e es refl), all_in table es (λ x c. each x (there e x es c)))

-- the rows of entries, under their keys
abbrev pub rows_in : EntryList → List (Key × Row)
rows_in es = map (λ e. (e.0.1, e.1)) es

-- within one table the order of the objects is that of their keys
key_below : (m n : ℕ) (r : Ordering) → m ≡ n → T (is_lt (ordering_then (nat_cmp m n) r)) → r ≡ Less
key_below m n r e h = less_is r (subst (λ o. T (is_lt (ordering_then o r))) (ap (nat_cmp m) (sym e) ∙ tied_itself nat_cmp_total m) h)

-- an object of the table that is below all entries has a key below all their keys
keys_above : (table : ℕ) (object : Object) (es : EntryList) → object.0 ≡ table → T (below_all object_cmp object es) → AllIn table es
    → AllByRecursion (λ y. key_cmp object.1 y ≡ Less) (map (λ e. e.0) (rows_in es))
keys_above table object [] own_table below inside = tt
keys_above table object (e ∷ es) own_table below inside = (
  key_below object.0 e.0.0 (key_cmp object.1 e.0.1) (own_table ∙ sym inside.0) (first_of_both (is_lt (object_cmp object e.0)) _ below),
  keys_above table object es own_table (second_of_both (is_lt (object_cmp object e.0)) (below_all object_cmp object es) below) inside.1,
)

-- the keys of entries of one table strictly rise
keys_rise : (table : ℕ) (es : EntryList) → T (is_sorted object_cmp es) → AllIn table es → IsStrictlySortedBy key_cmp (map (λ e. e.0) (rows_in es))
unfolding IsStrictlySortedBy
keys_rise table [] sorted inside = tt
keys_rise table (e ∷ es) sorted inside = (
  keys_above table e.0 es inside.0 (first_of_both (below_all object_cmp e.0 es) (is_sorted object_cmp es) sorted) inside.1,
  keys_rise table es (second_of_both (below_all object_cmp e.0 es) (is_sorted object_cmp es) sorted) inside.1,
)

-- What a range is answered.

-- the part of a state that a question asks for
abbrev pub part : State → Question → State
part state question = retain_keys state (asks question)

-- a test gives one answer at objects that tie
pub get_part : (state : State) (question : Question) (object : Object) → get (part state question) object ≡ cond (asks question object) (get state object) None
get_part state question object = get-retain_keys state (asks question) object (λ x e. sym (ap (asks question) (object_cmp-IsAntisymmetric object x e)))

-- what passed a test and is there passed it
kept_some : (b : Bool) (x : Option Row) (row : Row) → cond b x None ≡ Some row → (b ≡ true) × (x ≡ Some row)
kept_some true x row e = (refl, e)
kept_some false x row e = cc

-- an entry of the part is asked for, and is the state's row
in_part : (state : State) (question : Question) (object : Object) (row : Row) → Contains (entries (part state question)) (object, row)
    → (asks question object ≡ true) × (get state object ≡ Some row)
in_part state question object row c =
    let es = entries (part state question) in
    kept_some (asks question object) (get state object) row
    (sym (get_part state question object) ∙ get-entries (part state question) object ∙ found es (entries_sorted (part state question)) object row c)

-- and a row of the state that is asked for is such an entry
of_part : (state : State) (question : Question) (object : Object) (row : Row) → asks question object ≡ true → get state object ≡ Some row
    → Contains (entries (part state question)) (object, row)
of_part state question object row asked is =
    among (entries (part state question)) object row
    (sym (get-entries (part state question) object) ∙ get_part state question object ∙ ap (λ b. cond b (get state object) None) asked ∙ is)

-- a range's part is of its table alone
pub part_in_table : (state : State) (table : ℕ) (lower upper : Option Key) → AllIn table (entries (part state (Span table lower upper)))
part_in_table state table lower upper = all_in table (entries (part state (Span table lower upper)))
    (λ e c. ((asks_range table e.0.0 lower upper e.0.1).0 (in_part state (Span table lower upper) e.0 e.1 c).0).0)

-- the answer to a range is the rows of that part
range_rows : (state : State) (table : ℕ) (lower upper : Option Key) → answer (Span table lower upper) state ≡ Rows (rows_in (entries (part state (Span table lower upper))))
unfolding answer
range_rows state table lower upper = refl

-- a range is answered its rows, in order, each once
pub answers_range : AnswersRange
answers_range state table lower upper = (
  rows_in es,
  record {
    answered = range_rows state table lower upper;
    in_order = keys_rise table es (entries_sorted (part state question)) (part_in_table state table lower upper);
    exactly = λ key row. (from key row, back key row);
  },
)
  where
    question : Question
    question = Span table lower upper

    es : EntryList
    es = entries (part state question)

    from : (key : Key) (row : Row) → Contains (rows_in es) (key, row) → InRange lower upper key × (get state (table, key) ≡ Some row)
    from key row c =
        let u = unmapped (λ (e : Object × Row). (e.0.1, e.1)) es (key, row) c in
        let p = in_part state question u.0.0 u.0.1 u.1 in
        let at = (asks_range table u.0.0.0 lower upper u.0.0.1).0 p.0 in (
          subst (InRange lower upper) (λ i. (u.2 i).0) at.1,
          (λ i. get state (sym at.0 i, (sym u.2 i).0)) ∙ p.1 ∙ (λ i. Some (u.2 i).1),
        )

    back : (key : Key) (row : Row) → InRange lower upper key × (get state (table, key) ≡ Some row) → Contains (rows_in es) (key, row)
    back key row h = mapped (λ (e : Object × Row). (e.0.1, e.1)) es ((table, key), row)
        (of_part state question (table, key) row ((asks_range table table lower upper key).1 (refl, h.0)) h.1)
