-- A page of a range shows its first rows or its last ones, leaves the others, and tells no more than its question is answered.
use Rattle.std.proofs.Common.{◌≡◌, ◌⊎◌, ◌≤◌, ◌+◌, ◌-◌, max, ◌==◌, ◌^◌, ℕ, zero, suc, Bool, true, false, not, ◌&&◌, cond, nat_lt, if◌then◌else◌, List, [], ◌∷◌, ◌++◌, map, filter, length, take, drop, Option, None, Some, IfSome, Contains, slice_get, Ordering, Less, Equal, Greater, is_lt, is_le, nat_cmp, refl, sym, ap, subst, ◌∙◌, inl, inr, suc-le-suc, arith}
use Rattle.std.proofs.Math.Seq.{take-append_seam, drop-append_seam, take-append-add, drop-append-add}
use Rattle.std.proofs.Math.Nat.{min-le_left, le-min, le-max_right}
use Rattle.std.proofs.lemmas.List.{length-append, length-drop, length-take-le, append-nil, append_assoc, take_all}
use Rattle.std.specs.Option.{option_or}
use Rattle.std.specs.Cmp.{tied_itself, second_so}
use Rattle.std.specs.List.{AllByRecursion}
use Rattle.std.specs.List.Sorted.{IsStrictlySortedBy}
use Rattle.std.specs.Ordering.{ordering_then, ordering_reverse}
use Rattle.std.specs.FinMap.{get, retain_keys, entries, from_sorted, entries_sorted, get-entries, get-retain_keys, get-from_sorted, entries-from_sorted}
use Rattle.std.specs.FinMap.Entries.{find-where_key, is_sorted-where_key}
use Rattle.occ_types.proofs.After.{part_next, next_number, no_key_between}
use Rattle.occ_types.specs.After.{key_after, part_after}
use Rattle.occ_types.specs.Key.{Key, Num, Text as KeyText, Pair, key_cmp, key_cmp_total, key_cmp-IsAntisymmetric}
use Rattle.occ_types.specs.KeyPart as parts
use Rattle.occ_types.specs.KeyPart.{KeyPart, part_cmp}
use Rattle.occ_types.specs.Object.{Object, object_cmp, object_cmp-IsAntisymmetric}
use Rattle.occ_types.specs.Question.{Question, Span, asks, is_from, is_below, InRange}
use Rattle.occ_types.specs.Row.{Row}
use Rattle.occ_types.specs.Schema.{Table, Schema, fault_if, first_fault, check_question, check_range, check_end, is_empty_range, part_has_kind, key_has_kind, key_is_too_long, check_key_in}
use Rattle.occ_types.specs.declared.fault.Fault.{Fault}
use Rattle.occ_types.specs.declared.fault.Fault.TheVariants.{NoTable, EmptyRange}
use Rattle.occ_types.specs.declared.kind.KeyKind.{KeyKind}
use Rattle.occ_types.specs.declared.kind.KeyKind.TheVariants as keys
use Rattle.occ_types.specs.declared.kind.PartKind.{PartKind}
use Rattle.occ_types.specs.declared.kind.PartKind.TheVariants as part_kinds
use Rattle.occ_types.specs.declared.limits.TheConstants.{MAX_ANSWER_ROWS}
use Rattle.occ_model.specs.State.{State, Rows, answer, answer_size, apply}
use Rattle.occ_model.specs.Overlay.{overlay}
use Rattle.occ_model.specs.Content.{StateIs, QuestionFits, RowFits}
use Rattle.occ_model.specs.Paging.{Told, page_size, rows_answered, rows_between, first_key, first_in, last_in, last_behind, end_behind, first_end, last_begin, first_question, last_question}
use Rattle.occ_model.specs.PageLaws.{Parted, SeesOwn, IsFirstPage, IsLastPage, FirstPages, LastPages, IsFirstWalk, IsLastWalk, first_walked, last_walked, first_seen, last_seen, IsRange, FirstWalks, LastWalks, WalksEnd}
use Rattle.occ_model.specs.RangeLaws.{IsRangeAnswer}
use Rattle.occ_model.proofs.OwnWrites.{overlays_answer}
use Rattle.occ_model.proofs.RangeAnswers.{answers_range}
use Rattle.occ_model.proofs.States.{same_state}

-- Keys of one kind.

then_alike : (r a b : Ordering) → is_le a ≡ is_lt b → is_le (ordering_then r a) ≡ is_lt (ordering_then r b)
then_alike Less a b e = refl
then_alike Equal a b e = e
then_alike Greater a b e = refl

-- between a part and the next one lies none, where both are of a kind
part_behind : (kind : PartKind) (part other : KeyPart) → part_has_kind kind (part_after part) ≡ true → part_has_kind kind other ≡ true → is_le (part_cmp (part_after part) other) ≡ is_lt (part_cmp part other)
part_behind kind (parts.Text s) (parts.Text t) fits is = part_next (parts.Text s) (parts.Text t) refl
part_behind part_kinds.Num (parts.Text s) (parts.Num n) fits is = cc
part_behind part_kinds.Text (parts.Text s) (parts.Num n) fits is = cc
part_behind kind (parts.Num m) (parts.Text t) fits is = part_next (parts.Num m) (parts.Text t) refl
part_behind part_kinds.Text (parts.Num m) (parts.Num n) fits is = cc
part_behind part_kinds.Num (parts.Num m) (parts.Num n) fits is = by (nat_lt m (2 ^ 64 - 1)) fits
  where
    by : (b : Bool) → part_has_kind part_kinds.Num (if b then parts.Num (m + 1) else parts.Text []) ≡ true
        → is_le (part_cmp (if b then parts.Num (m + 1) else parts.Text []) (parts.Num n)) ≡ is_lt (nat_cmp m n)
    by true fits = next_number m n
    by false fits = cc

-- and so of keys
key_behind : (kind : KeyKind) (key other : Key) → key_has_kind kind (key_after key) ≡ true → key_has_kind kind other ≡ true → is_le (key_cmp (key_after key) other) ≡ is_lt (key_cmp key other)
key_behind kind key (KeyText t) fits is = no_key_between key (KeyText t) refl
key_behind keys.Num (KeyText s) (Num n) fits is = cc
key_behind keys.Num (Pair a b) (Num n) fits is = cc
key_behind keys.Text key (Num n) fits is = cc
key_behind (keys.Pair k l) key (Num n) fits is = cc
key_behind keys.Num (Num m) (Num n) fits is = by (nat_lt m (2 ^ 64 - 1)) fits
  where
    by : (b : Bool) → key_has_kind keys.Num (if b then Num (m + 1) else KeyText []) ≡ true
        → is_le (key_cmp (if b then Num (m + 1) else KeyText []) (Num n)) ≡ is_lt (nat_cmp m n)
    by true fits = next_number m n
    by false fits = cc
key_behind keys.Num key (Pair c d) fits is = cc
key_behind keys.Text key (Pair c d) fits is = cc
key_behind (keys.Pair k l) (KeyText s) (Pair c d) fits is = cc
key_behind (keys.Pair k l) (Num m) (Pair c d) fits is = by (nat_lt m (2 ^ 64 - 1)) fits
  where
    by : (b : Bool) → key_has_kind (keys.Pair k l) (if b then Num (m + 1) else KeyText []) ≡ true
        → is_le (key_cmp (if b then Num (m + 1) else KeyText []) (Pair c d)) ≡ true
    by true fits = cc
    by false fits = cc
key_behind (keys.Pair k l) (Pair a b) (Pair c d) fits is =
    then_alike (part_cmp a c) (part_cmp (part_after b) d) (part_cmp b d)
    (part_behind l b d (second_so (part_has_kind k a) (part_has_kind l (part_after b)) fits) (second_so (part_has_kind k c) (part_has_kind l d) is))

less_is : (r : Ordering) → is_lt r ≡ true → r ≡ Less
less_is Less e = refl
less_is Equal e = cc
less_is Greater e = cc

has_kind : (a b : Bool) (f g : Fault) → first_fault (fault_if (not a) f ∷ fault_if b g ∷ []) ≡ None → a ≡ true
has_kind true b f g e = refl
has_kind false b f g e = cc

-- Tests of ends.

below_is : (end key : Key) → key_cmp key end ≡ Less → is_below (Some end) key ≡ true
below_is end key less = ap (λ r. not (is_le r)) (key_cmp_total.antisymm end key ∙ ap ordering_reverse less)

not_from : (end key : Key) → key_cmp key end ≡ Less → is_from (Some end) key ≡ false
not_from end key less = ap is_le (key_cmp_total.antisymm end key ∙ ap ordering_reverse less)

le_less : (a b c : Key) → is_le (key_cmp a b) ≡ true → key_cmp b c ≡ Less → is_le (key_cmp a c) ≡ true
le_less a b c h less = by (key_cmp a b) refl h
  where
    by : (r : Ordering) → key_cmp a b ≡ r → is_le r ≡ true → is_le (key_cmp a c) ≡ true
    by Less e h = ap is_le (key_cmp_total.trans a b c e less)
    by Equal e h = ap is_le (key_cmp_total.congr a b c e ∙ less)
    by Greater e h = cc

-- behind a key that is not below an end, no key is
none_below : (end key : Key) (rows : List (Key × Row)) → is_le (key_cmp end key) ≡ true → AllByRecursion (λ y. key_cmp key y ≡ Less) (map (λ e. e.0) rows) → filter (λ e. is_below (Some end) e.0) rows ≡ []
none_below end key [] h all = refl
none_below end key (e ∷ rows) h all =
    let out = ap not (le_less end key e.0 h all.0) in
    λ i. cond (out i) (e ∷ filter (λ f. is_below (Some end) f.0) rows) (none_below end key rows h all.1 i)

all_from : (end key : Key) (rows : List (Key × Row)) → is_le (key_cmp end key) ≡ true → AllByRecursion (λ y. key_cmp key y ≡ Less) (map (λ e. e.0) rows) → filter (λ e. is_from (Some end) e.0) rows ≡ rows
all_from end key [] h all = refl
all_from end key (e ∷ rows) h all =
    let within = le_less end key e.0 h all.0 in
    λ i. cond (within i) (e ∷ all_from end key rows h all.1 i) (filter (λ f. is_from (Some end) f.0) rows)

less_le : (a b c : Key) → key_cmp a b ≡ Less → is_le (key_cmp b c) ≡ true → key_cmp a c ≡ Less
less_le a b c less h = by (key_cmp b c) refl h
  where
    by : (r : Ordering) → key_cmp b c ≡ r → is_le r ≡ true → key_cmp a c ≡ Less
    by Less e h = key_cmp_total.trans a b c less e
    by Equal e h = subst (λ k. key_cmp a k ≡ Less) (key_cmp-IsAntisymmetric b c e) less
    by Greater e h = cc

past_not_le : (r : Ordering) → not (is_le r) ≡ true → ordering_reverse r ≡ Less
past_not_le Less e = cc
past_not_le Equal e = cc
past_not_le Greater e = refl

-- and one from there on is from the beginning of the range on
from_both : (lower : Option Key) (end last key : Key) → IfSome lower (λ low. is_le (key_cmp low last) ≡ true) → key_cmp last end ≡ Less → is_from (Some end) key ≡ true → is_from lower key ≡ true
from_both None end last key within less from = refl
from_both (Some low) end last key within less from = le_less low last key within (less_le last end key less from)

cut_test : (a b c : Bool) → (c ≡ true → b ≡ true) → (a && c) ≡ ((a && b) && c)
cut_test true b true h = sym (ap (λ x. x && true) (h refl))
cut_test true true false h = refl
cut_test true false false h = refl
cut_test false b c h = refl

begin_test : (a b c : Bool) → (c ≡ true → a ≡ true) → (c && b) ≡ ((a && b) && c)
begin_test a true true h = sym (ap (λ x. (x && true) && true) (h refl))
begin_test a false true h = both_out a
  where
    both_out : (a : Bool) → false ≡ ((a && false) && true)
    both_out true = refl
    both_out false = refl
begin_test a b false h = out (a && b)
  where
    out : (x : Bool) → false ≡ (x && false)
    out true = refl
    out false = refl

-- Rows in the order of their keys.

abbrev Rise : List (Key × Row) → Type 0
Rise rows = IsStrictlySortedBy key_cmp (map (λ e. e.0) rows)

-- a key before others is below each of them
head_less : (key : Key) (x : Key × Row) (front others : List (Key × Row)) → AllByRecursion (λ y. key_cmp key y ≡ Less) (map (λ e. e.0) (front ++ x ∷ others)) → key_cmp key x.0 ≡ Less
head_less key x [] others all = all.0
head_less key x (e ∷ front) others all = head_less key x front others all.1

-- the row after one stands above it
next_less : (x : Key × Row) (front others : List (Key × Row)) → Rise (front ++ x ∷ others) → IfSome (first_key others) (λ next. key_cmp x.0 next ≡ Less)
unfolding IsStrictlySortedBy
next_less x [] [] rise = tt
next_less x [] (y ∷ others) rise = rise.0.0
next_less x (e ∷ front) others rise = next_less x front others rise.1

-- below an end that stands behind one of them and not behind the next are the rows up to it
cut_behind : (end : Key) (x : Key × Row) (front others : List (Key × Row)) → Rise (front ++ x ∷ others) → key_cmp x.0 end ≡ Less → IfSome (first_key others) (λ next. is_le (key_cmp end next) ≡ true)
    → filter (λ e. is_below (Some end) e.0) (front ++ x ∷ others) ≡ front ++ x ∷ []
unfolding IsStrictlySortedBy
cut_behind end x [] [] rise less from =
    let within = below_is end x.0 less in
    λ i. cond (within i) (x ∷ []) []
cut_behind end x [] (y ∷ others) rise less from =
    let within = below_is end x.0 less in
    let out : filter (λ f. is_below (Some end) f.0) (y ∷ others) ≡ [] = (λ i. cond (not (from i)) (y ∷ filter (λ f. is_below (Some end) f.0) others) (none_below end y.0 others from rise.1.0 i)) in
    λ i. cond (within i) (x ∷ out i) (out i)
cut_behind end x (e ∷ front) others rise less from =
    let within = below_is end e.0 (key_cmp_total.trans e.0 x.0 end (head_less e.0 x front others rise.0) less) in
    λ i. cond (within i) (e ∷ cut_behind end x front others rise.1 less from i) (filter (λ f. is_below (Some end) f.0) (front ++ x ∷ others))

itself : (key : Key) → is_le (key_cmp key key) ≡ true
itself key = ap is_le (tied_itself key_cmp_total key)

-- below the key of one of them are the rows before it
cut_before : (x : Key × Row) (front others : List (Key × Row)) → Rise (front ++ x ∷ others) → filter (λ e. is_below (Some x.0) e.0) (front ++ x ∷ others) ≡ front
unfolding IsStrictlySortedBy
cut_before x [] others rise = λ i. cond (not (itself x.0 i)) (x ∷ filter (λ f. is_below (Some x.0) f.0) others) (none_below x.0 x.0 others (itself x.0) rise.0 i)
cut_before x (e ∷ front) others rise =
    let within = below_is x.0 e.0 (head_less e.0 x front others rise.0) in
    λ i. cond (within i) (e ∷ cut_before x front others rise.1 i) (filter (λ f. is_below (Some x.0) f.0) (front ++ x ∷ others))

-- and from there on it and those behind it
cut_at : (x : Key × Row) (front others : List (Key × Row)) → Rise (front ++ x ∷ others) → filter (λ e. is_from (Some x.0) e.0) (front ++ x ∷ others) ≡ x ∷ others
unfolding IsStrictlySortedBy
cut_at x [] others rise = λ i. cond (itself x.0 i) (x ∷ all_from x.0 x.0 others (itself x.0) rise.0 i) (filter (λ f. is_from (Some x.0) f.0) others)
cut_at x (e ∷ front) others rise =
    let out = not_from x.0 e.0 (head_less e.0 x front others rise.0) in
    λ i. cond (out i) (e ∷ filter (λ f. is_from (Some x.0) f.0) (front ++ x ∷ others)) (cut_at x front others rise.1 i)

-- any end cuts them in two
cut_anywhere : (end : Key) (rows : List (Key × Row)) → Rise rows → rows ≡ filter (λ e. is_below (Some end) e.0) rows ++ filter (λ e. is_from (Some end) e.0) rows
unfolding IsStrictlySortedBy
cut_anywhere end [] rise = refl
cut_anywhere end (e ∷ rows) rise = by (is_le (key_cmp end e.0)) refl (cut_anywhere end rows rise.1)
  where
    low : List (Key × Row)
    low = filter (λ f. is_below (Some end) f.0) rows

    high : List (Key × Row)
    high = filter (λ f. is_from (Some end) f.0) rows

    by : (b : Bool) → is_le (key_cmp end e.0) ≡ b → rows ≡ low ++ high
        → e ∷ rows ≡ filter (λ f. is_below (Some end) f.0) (e ∷ rows) ++ filter (λ f. is_from (Some end) f.0) (e ∷ rows)
    by true is parts =
        let none = none_below end e.0 rows is rise.0 in
        let all = all_from end e.0 rows is rise.0 in
        sym (λ i. cond (not (is i)) (e ∷ low) (none i) ++ cond (is i) (e ∷ all i) high)
    by false is parts = ap (λ l. e ∷ l) parts ∙ sym (λ i. cond (not (is i)) (e ∷ low) low ++ cond (is i) (e ∷ high) high)

-- Answers.

-- what is kept of a state is what passes the test
pub kept : (state : State) (test : Object → Bool) → entries (retain_keys state test) ≡ filter (λ e. test e.0) (entries state)
kept state test =
    let es = filter (λ e. test e.0) (entries state) in
    let sorted = is_sorted-where_key object_cmp test (entries state) (entries_sorted state) in
    let alike : (o : Object) (x : Object) → object_cmp o x ≡ Equal → test x ≡ test o = λ o x e. sym (ap test (object_cmp-IsAntisymmetric o x e)) in
    let same = same_state (retain_keys state test) (from_sorted es) (λ o.
    get-retain_keys state test o (alike o)
    ∙ ap (λ x. cond (test o) x None) (get-entries state o)
    ∙ sym (get-from_sorted object_cmp es o sorted ∙ find-where_key object_cmp test o (alike o) (entries state))) in
    ap entries same ∙ entries-from_sorted object_cmp es sorted

abbrev pub rows_of : List (Object × Row) → List (Key × Row)
rows_of = map (λ e. (e.0.1, e.1))

-- what passes a narrower test is what passes the wider one and then the rest of it
narrower : (es : List (Object × Row)) (p p' : Object → Bool) (q : Key → Bool) → ((o : Object) → p' o ≡ (p o && q o.1))
    → rows_of (filter (λ e. p' e.0) es) ≡ filter (λ e. q e.0) (rows_of (filter (λ e. p e.0) es))
narrower [] p p' q same = refl
narrower (e ∷ es) p p' q same =
    ap (λ b. rows_of (cond b (e ∷ filter (λ f. p' f.0) es) (filter (λ f. p' f.0) es))) (same e.0) ∙ by (p e.0) (q e.0.1) refl (narrower es p p' q same)
  where
    by : (b c : Bool) → q e.0.1 ≡ c → rows_of (filter (λ f. p' f.0) es) ≡ filter (λ f. q f.0) (rows_of (filter (λ f. p f.0) es))
        → rows_of (cond (b && c) (e ∷ filter (λ f. p' f.0) es) (filter (λ f. p' f.0) es)) ≡ filter (λ f. q f.0) (rows_of (cond b (e ∷ filter (λ f. p f.0) es) (filter (λ f. p f.0) es)))
    by true true is rest =
        ap (λ fs. (e.0.1, e.1) ∷ fs) rest
        ∙ ap (λ b. cond b ((e.0.1, e.1) ∷ filter (λ f. q f.0) (rows_of (filter (λ f. p f.0) es))) (filter (λ f. q f.0) (rows_of (filter (λ f. p f.0) es)))) (sym is)
    by true false is rest =
        rest
        ∙ ap (λ b. cond b ((e.0.1, e.1) ∷ filter (λ f. q f.0) (rows_of (filter (λ f. p f.0) es))) (filter (λ f. q f.0) (rows_of (filter (λ f. p f.0) es)))) (sym is)
    by false c is rest = rest

regrouped : (a b c : Bool) → (a && (b && c)) ≡ ((a && b) && c)
regrouped true b c = refl
regrouped false b c = refl

-- the answer to a narrower range is the part of the wider one's
narrower_answer : (state : State) (table : ℕ) (lower low upper up : Option Key) (q : Key → Bool) → ((k : Key) → (is_from low k && is_below up k) ≡ ((is_from lower k && is_below upper k) && q k))
    → rows_answered (answer (Span table low up) state) ≡ filter (λ e. q e.0) (rows_answered (answer (Span table lower upper) state))
unfolding answer asks
narrower_answer state table lower low upper up q same =
    ap rows_of (kept state (asks (Span table low up)))
    ∙ narrower (entries state) (asks (Span table lower upper)) (asks (Span table low up)) q (λ o. ap (λ b. (o.0 == table) && b) (same o.1) ∙ regrouped (o.0 == table) (is_from lower o.1 && is_below upper o.1) (q o.1))
    ∙ ap (λ es. filter (λ e. q e.0) (rows_of es)) (sym (kept state (asks (Span table lower upper))))

-- Ranges that are cut.

-- an end within a range
record Within (lower upper : Option Key) (end : Key) : Type 0 where
  below : (key : Key) → is_below (Some end) key ≡ true → is_below upper key ≡ true
  from : (key : Key) → is_from (Some end) key ≡ true → is_from lower key ≡ true

le_le : (a b c : Key) → is_le (key_cmp a b) ≡ true → is_le (key_cmp b c) ≡ true → is_le (key_cmp a c) ≡ true
le_le a b c h k = by (key_cmp b c) refl k
  where
    by : (r : Ordering) → key_cmp b c ≡ r → is_le r ≡ true → is_le (key_cmp a c) ≡ true
    by Less e k = le_less a b c h e
    by Equal e k = subst (λ x. is_le (key_cmp a x) ≡ true) (key_cmp-IsAntisymmetric b c e) h
    by Greater e k = cc

le_lt : (a b c : Key) → is_le (key_cmp a b) ≡ true → key_cmp b c ≡ Less → key_cmp a c ≡ Less
le_lt a b c h less = by (key_cmp a b) refl h
  where
    by : (r : Ordering) → key_cmp a b ≡ r → is_le r ≡ true → key_cmp a c ≡ Less
    by Less e h = key_cmp_total.trans a b c e less
    by Equal e h = key_cmp_total.congr a b c e ∙ less
    by Greater e h = cc

key_below : (end key : Key) → is_below (Some end) key ≡ true → key_cmp key end ≡ Less
key_below end key below = key_cmp_total.antisymm key end ∙ past_not_le (key_cmp end key) below

-- what is below an end is below all that the end is at most
below_on : (upper : Option Key) (end : Key) → IfSome upper (λ up. is_le (key_cmp end up) ≡ true) → (key : Key) → is_below (Some end) key ≡ true → is_below upper key ≡ true
below_on None end most key below = refl
below_on (Some up) end most key below = below_is up key (less_le key end up (key_below end key below) most)

from_on : (lower : Option Key) (end : Key) → IfSome lower (λ low. is_le (key_cmp low end) ≡ true) → (key : Key) → is_from (Some end) key ≡ true → is_from lower key ≡ true
from_on None end least key from = refl
from_on (Some low) end least key from = le_le low end key least from

less_at_most : (upper : Option Key) (end : Key) → IfSome upper (λ up. key_cmp end up ≡ Less) → IfSome upper (λ up. is_le (key_cmp end up) ≡ true)
less_at_most None end less = tt
less_at_most (Some up) end less = ap is_le less

at_least : (lower : Option Key) (key end : Key) → IfSome lower (λ low. is_le (key_cmp low key) ≡ true) → key_cmp key end ≡ Less → IfSome lower (λ low. is_le (key_cmp low end) ≡ true)
at_least None key end least less = tt
at_least (Some low) key end least less = le_less low key end least less

-- the rows of a range are answered, and in order
answered_so : (state : State) (table : ℕ) (lower upper : Option Key) → IsRangeAnswer state table lower upper (rows_between state table lower upper)
answered_so state table lower upper =
    let found = answers_range state table lower upper in
    subst (IsRangeAnswer state table lower upper) (sym (ap rows_answered found.1.answered)) found.1

below_part : (state : State) (table : ℕ) (lower upper : Option Key) (end : Key) → Within lower upper end
    → rows_between state table lower (Some end) ≡ filter (λ e. is_below (Some end) e.0) (rows_between state table lower upper)
below_part state table lower upper end within =
    narrower_answer state table lower lower upper (Some end) (λ k. is_below (Some end) k)
    (λ k. cut_test (is_from lower k) (is_below upper k) (is_below (Some end) k) (within.below k))

from_part : (state : State) (table : ℕ) (lower upper : Option Key) (end : Key) → Within lower upper end
    → rows_between state table (Some end) upper ≡ filter (λ e. is_from (Some end) e.0) (rows_between state table lower upper)
from_part state table lower upper end within =
    narrower_answer state table lower (Some end) upper upper (λ k. is_from (Some end) k)
    (λ k. begin_test (is_from lower k) (is_below upper k) (is_from (Some end) k) (within.from k))

-- an end within it parts it, in every state
parted_at : (table : ℕ) (lower upper : Option Key) (end : Key) → Within lower upper end → Parted table lower upper end
parted_at table lower upper end within state =
    let low = below_part state table lower upper end within in
    let high = from_part state table lower upper end within in
    cut_anywhere end (rows_between state table lower upper) (answered_so state table lower upper).in_order
    ∙ sym (λ i. low i ++ high i)

-- one of some rows is among them
stands : (x : Key × Row) (front others : List (Key × Row)) → Contains (front ++ x ∷ others) x
stands x [] others = (0, omega arith, refl)
stands x (e ∷ front) others =
    let found = stands x front others in
    (suc found.0, suc-le-suc found.1, found.2)

-- A range around one of its rows.
module _ (state : State) (table : ℕ) (lower upper : Option Key) (x : Key × Row) (front others : List (Key × Row))
    (is : rows_between state table lower upper ≡ front ++ x ∷ others) where
  rise : Rise (front ++ x ∷ others)
  rise = subst Rise is (answered_so state table lower upper).in_order

  row_in : InRange lower upper x.0 × (get state (table, x.0) ≡ Some x.1)
  row_in = ((answered_so state table lower upper).exactly x.0 x.1).0 (subst (λ rows. Contains rows x) (sym is) (stands x front others))

  row_within : Within lower upper x.0
  row_within = record {
    below = below_on upper x.0 (less_at_most upper x.0 row_in.0.below);
    from = from_on lower x.0 row_in.0.from;
  }

  before_row : rows_between state table lower (Some x.0) ≡ front
  before_row =
      below_part state table lower upper x.0 row_within
      ∙ ap (filter (λ e. is_below (Some x.0) e.0)) is
      ∙ cut_before x front others rise

  from_row : rows_between state table (Some x.0) upper ≡ x ∷ others
  from_row =
      from_part state table lower upper x.0 row_within
      ∙ ap (filter (λ e. is_from (Some x.0) e.0)) is
      ∙ cut_at x front others rise

  -- an end behind it, where the next row is not below the end
  record Behind (end : Key) : Type 0 where
    less : key_cmp x.0 end ≡ Less
    next : IfSome (first_key others) (λ next. is_le (key_cmp end next) ≡ true)
    most : IfSome upper (λ up. is_le (key_cmp end up) ≡ true)

  behind_within : (end : Key) → Behind end → Within lower upper end
  behind_within end at = record {
    below = below_on upper end at.most;
    from = from_on lower end (at_least lower x.0 end row_in.0.from at.less);
  }

  up_to_row : (end : Key) → Behind end → rows_between state table lower (Some end) ≡ front ++ x ∷ []
  up_to_row end at =
      below_part state table lower upper end (behind_within end at)
      ∙ ap (filter (λ e. is_below (Some end) e.0)) is
      ∙ cut_behind end x front others rise at.less at.next

  some_room : (low : Option Key) (end : Key) → IfSome low (λ l. is_le (key_cmp l x.0) ≡ true) → key_cmp x.0 end ≡ Less → is_empty_range low (Some end) ≡ false
  some_room None end least less = refl
  some_room (Some l) end least less = ap (λ r. not (is_lt r)) (le_lt l x.0 end least less)

  -- an end up to which the row is answered, and none behind it
  record Reaches (definition : Table) (end : Option Key) : Type 0 where
    answered : rows_between state table lower end ≡ front ++ x ∷ []
    whole : (other : State) → (later : List (Key × Row)) × (rows_between other table lower upper ≡ rows_between other table lower end ++ later)
    fits : check_end definition end ≡ None
    room : is_empty_range lower end ≡ false

  reaches_behind : (definition : Table) (end : Key) → Behind end → check_key_in definition end ≡ None → Reaches definition (Some end)
  reaches_behind definition end at fits = record {
    answered = up_to_row end at;
    whole = λ other. (rows_between other table (Some end) upper, parted_at table lower upper end (behind_within end at) other);
    fits = fits;
    room = some_room lower end row_in.0.from at.less;
  }

-- the next key is behind a key, and at most each other one of its kind that is above
after_less : (definition : Table) (key : Key) → check_key_in definition (key_after key) ≡ None → key_cmp key (key_after key) ≡ Less
after_less definition key fits =
    let kind = has_kind (key_has_kind definition.key (key_after key)) (key_is_too_long (key_after key)) _ _ fits in
    less_is (key_cmp key (key_after key)) (sym (key_behind definition.key key (key_after key) kind kind) ∙ itself (key_after key))

after_most : (definition : Table) (key : Key) → check_key_in definition (key_after key) ≡ None → (other : Option Key) → check_end definition other ≡ None → IfSome other (λ o. key_cmp key o ≡ Less) → IfSome other (λ o. is_le (key_cmp (key_after key) o) ≡ true)
after_most definition key fits None fit less = tt
after_most definition key fits (Some o) fit less =
    let kind = has_kind (key_has_kind definition.key (key_after key)) (key_is_too_long (key_after key)) _ _ fits in
    let other_kind = has_kind (key_has_kind definition.key o) (key_is_too_long o) _ _ fit in
    key_behind definition.key key o kind other_kind ∙ ap is_lt less

-- the end of what a first page asks is such an end
module _ (definition : Table) (state : State) (table : ℕ) (lower upper : Option Key) (x : Key × Row) (front : List (Key × Row))
    (upper_fits : check_end definition upper ≡ None) (some : is_empty_range lower upper ≡ false) where
  reaches : (others : List (Key × Row)) (is : rows_between state table lower upper ≡ front ++ x ∷ others) → check_end definition (first_key others) ≡ None
      → Reaches state table lower upper x front others is definition (end_behind definition x.0 (option_or (first_key others) upper))
  reaches others is next_fits = by (check_key_in definition (key_after x.0)) refl others is next_fits
    where
      by : (check : Option Fault) → check_key_in definition (key_after x.0) ≡ check → (others : List (Key × Row)) (is : rows_between state table lower upper ≡ front ++ x ∷ others) → check_end definition (first_key others) ≡ None
          → Reaches state table lower upper x front others is definition (elim check as (λ _. Option Key) [ None ↦ Some (key_after x.0) | Some fault ↦ option_or (first_key others) upper ])
      by None fits others is next_fits =
          reaches_behind state table lower upper x front others is definition (key_after x.0) (record {
            less = after_less definition x.0 fits;
            next = after_most definition x.0 fits (first_key others) next_fits (next_less x front others (rise state table lower upper x front others is));
            most = after_most definition x.0 fits upper upper_fits (row_in state table lower upper x front others is).0.below;
          }) fits
      by (Some fault) e [] is next_fits = record {
        answered = is;
        whole = λ other. ([], sym (append-nil (rows_between other table lower upper)));
        fits = upper_fits;
        room = some;
      }
      by (Some fault) e (y ∷ others) is next_fits =
          let again : rows_between state table lower upper ≡ (front ++ x ∷ []) ++ y ∷ others = is ∙ sym (append_assoc front (x ∷ []) (y ∷ others)) in
          reaches_behind state table lower upper x front (y ∷ others) is definition y.0 (record {
            less = next_less x front (y ∷ others) (rise state table lower upper x front (y ∷ others) is);
            next = itself y.0;
            most = less_at_most upper y.0 (row_in state table lower upper y (front ++ x ∷ []) others again).0.below;
          }) next_fits

-- Rows that are cut by their number.

parted : {X : Type 0} (n : ℕ) (rows : List X) → ((drop n rows ≡ []) × (length rows ≤ n)) ⊎ ((front : List X) × (x : X) × (others : List X) × (rows ≡ front ++ x ∷ others) × (length front ≡ n))
parted zero [] = inl (refl, omega arith)
parted zero (x ∷ rows) = inr ([], x, rows, refl, refl)
parted (suc n) [] = inl (refl, omega arith)
parted {X} (suc n) (y ∷ rows) = by (parted n rows)
  where
    by : ((drop n rows ≡ []) × (length rows ≤ n)) ⊎ ((front : List X) × (x : X) × (others : List X) × (rows ≡ front ++ x ∷ others) × (length front ≡ n))
        → ((drop n rows ≡ []) × (length (y ∷ rows) ≤ suc n)) ⊎ ((front : List X) × (x : X) × (others : List X) × (y ∷ rows ≡ front ++ x ∷ others) × (length front ≡ suc n))
    by (inl none) = inl (none.0, suc-le-suc none.1)
    by (inr found) = inr (y ∷ found.0, found.1, found.2, ap (λ l. y ∷ l) found.3, ap suc found.4)

-- A first page, by the rows before and behind the row that is cut off.
module _ (size : ℕ) (x : Key × Row) (front others : List (Key × Row)) (count : length front ≡ size) where
  first_taken : take size (front ++ x ∷ others) ≡ front
  first_taken = ap (λ n. take n (front ++ x ∷ others)) (sym count) ∙ take-append_seam front (x ∷ others)

  first_dropped : drop size (front ++ x ∷ others) ≡ x ∷ others
  first_dropped = ap (λ n. drop n (front ++ x ∷ others)) (sym count) ∙ drop-append_seam front (x ∷ others)

  one_more : take (size + 1) (front ++ x ∷ others) ≡ front ++ x ∷ []
  one_more = ap (λ n. take (n + 1) (front ++ x ∷ others)) (sym count) ∙ take-append-add front (x ∷ others) 1

  first_is : first_in size (front ++ x ∷ others) ≡ (front, Some x.0)
  first_is = λ i. (first_taken i, first_key (first_dropped i))

-- And a last one.
module _ (size : ℕ) (x : Key × Row) (front shown : List (Key × Row)) (count : length shown ≡ size) where
  before_shown : length (front ++ x ∷ shown) - size ≡ suc (length front)
  before_shown = omega (arith, count, length-append front (x ∷ shown))

  last_dropped : drop (suc (length front)) (front ++ x ∷ shown) ≡ shown
  last_dropped =
      let on : suc (length front) ≡ length front + 1 = omega arith in
      ap (λ n. drop n (front ++ x ∷ shown)) on ∙ drop-append-add front (x ∷ shown) 1

  last_is : last_in size (front ++ x ∷ shown) ≡ (shown, first_key shown)
  last_is = ap (λ n. last_behind n (front ++ x ∷ shown)) before_shown ∙ (λ i. (last_dropped i, first_key (last_dropped i)))

-- Own writes over the shown side.

sees : (state : State) (table : ℕ) (lower upper : Option Key) (shown : List (Key × Row)) → rows_between state table lower upper ≡ shown → SeesOwn state table (lower, upper) shown
unfolding answer
sees state table lower upper shown same writes distinct =
    ap (λ s. rows_answered (overlay (Span table lower upper) writes (Rows s))) (sym same)
    ∙ ap rows_answered (overlays_answer (Span table lower upper) writes state distinct)

size_is : (state : State) (table : ℕ) (lower upper : Option Key) → answer_size (answer (Span table lower upper) state) ≡ length (rows_between state table lower upper)
unfolding answer
size_is state table lower upper = refl

size_fits : (most : ℕ) → page_size most + 1 ≤ MAX_ANSWER_ROWS
size_fits most =
    let least = min-le_left (MAX_ANSWER_ROWS - 1) (max most 1) in
    omega (arith, least)

-- Schemas.

peeled : (a b : Option Fault) (c : Bool) (f : Fault) → first_fault (a ∷ b ∷ fault_if c f ∷ []) ≡ None → (a ≡ None) × (b ≡ None) × (c ≡ false)
peeled (Some x) b c f e = cc
peeled None (Some x) c f e = cc
peeled None None true f e = cc
peeled None None false f e = (refl, refl, refl)

no_fault : (a b : Option Fault) (c : Bool) (f : Fault) → a ≡ None → b ≡ None → c ≡ false → first_fault (a ∷ b ∷ fault_if c f ∷ []) ≡ None
no_fault a b c f p q r = λ i. first_fault (p i ∷ q i ∷ fault_if (r i) f ∷ [])

no_table : {check : Option Fault} → check ≡ Some NoTable → check ≡ None → ⊥
no_table e f = cc

module _ (schema : Schema) (table : ℕ) (definition : Table) (at : slice_get schema table ≡ Some definition) where
  in_place : (check : Table → Option Fault) → elim (slice_get schema table) as (λ _. Option Fault) [ None ↦ Some NoTable | Some d ↦ check d ] ≡ check definition
  in_place check = ap (λ t. elim t as (λ _. Option Fault) [ None ↦ Some NoTable | Some d ↦ check d ]) at

  askable_by : (lower upper : Option Key) → check_end definition lower ≡ None → check_end definition upper ≡ None → is_empty_range lower upper ≡ false → check_question schema (Span table lower upper) ≡ None
  askable_by lower upper p q r = in_place (λ d. check_range d lower upper) ∙ no_fault (check_end definition lower) (check_end definition upper) (is_empty_range lower upper) EmptyRange p q r

  range_fits : (lower upper : Option Key) → check_question schema (Span table lower upper) ≡ None → (check_end definition lower ≡ None) × (check_end definition upper ≡ None) × (is_empty_range lower upper ≡ false)
  range_fits lower upper check = peeled (check_end definition lower) (check_end definition upper) (is_empty_range lower upper) EmptyRange (sym (in_place (λ d. check_range d lower upper)) ∙ check)

-- The sides of a page, which need no schema.

module _ (state : State) (table : ℕ) (lower upper : Option Key) where
  abbrev rows : List (Key × Row)
  rows = rows_between state table lower upper

  pub record FirstSides (size : ℕ) (told : Told) : Type 0 where
    pub shown : rows_between state table lower (option_or told.1 upper) ≡ told.0
    pub others : IfSome told.1 (λ rest. Parted table lower upper rest × (rows_between state table (Some rest) upper ≡ drop size rows))

  pub first_sides : (size : ℕ) → FirstSides size (first_in size rows)
  first_sides size = by (parted size rows)
    where
      by : ((drop size rows ≡ []) × (length rows ≤ size)) ⊎ ((front : List (Key × Row)) × (x : Key × Row) × (others : List (Key × Row)) × (rows ≡ front ++ x ∷ others) × (length front ≡ size)) → FirstSides size (first_in size rows)
      by (inl none) = subst (FirstSides size) (sym alone) (record { shown = refl; others = tt })
        where
          alone : first_in size rows ≡ (rows, None)
          alone = λ i. (take_all size rows none.1 i, first_key (none.0 i))
      by (inr (front, x, others, is, count)) = subst (FirstSides size) (sym led) (record {
        shown = before_row state table lower upper x front others is;
        others = (
          parted_at table lower upper x.0 (row_within state table lower upper x front others is),
          from_row state table lower upper x front others is ∙ sym (ap (drop size) is ∙ first_dropped size x front others count),
        );
      })
        where
          led : first_in size rows ≡ (front, Some x.0)
          led = ap (first_in size) is ∙ first_is size x front others count

  pub record LastSides (size : ℕ) (told : Told) : Type 0 where
    pub shown : rows_between state table (option_or told.1 lower) upper ≡ told.0
    pub others : IfSome told.1 (λ rest. Parted table lower upper rest × (rows_between state table lower (Some rest) ≡ take (length rows - size) rows))

  last_sides_at : (size : ℕ) (x : Key × Row) (front shown : List (Key × Row)) → rows ≡ front ++ x ∷ shown → length shown ≡ size → 1 ≤ size → LastSides size (last_in size rows)
  last_sides_at size x front [] is count one = absurd (omega (arith, count, one))
  last_sides_at size x front (s ∷ shown) is count one =
      subst (LastSides size) (sym led) (record {
        shown = from_row state table lower upper s (front ++ x ∷ []) shown again;
        others = (
          parted_at table lower upper s.0 (row_within state table lower upper s (front ++ x ∷ []) shown again),
          before_row state table lower upper s (front ++ x ∷ []) shown again ∙ sym taken,
        );
      })
    where
      again : rows ≡ (front ++ x ∷ []) ++ s ∷ shown
      again = is ∙ sym (append_assoc front (x ∷ []) (s ∷ shown))

      led : last_in size rows ≡ (s ∷ shown, Some s.0)
      led = ap (last_in size) is ∙ last_is size x front (s ∷ shown) count

      taken : take (length rows - size) rows ≡ front ++ x ∷ []
      taken =
          ap (λ l. take (length l - size) l) is
          ∙ ap (λ n. take n (front ++ x ∷ s ∷ shown)) (before_shown size x front (s ∷ shown) count)
          ∙ (let on : suc (length front) ≡ length front + 1 = omega arith in ap (λ n. take n (front ++ x ∷ s ∷ shown)) on)
          ∙ take-append-add front (x ∷ s ∷ shown) 1

  -- what stands before a last page: nothing, or some rows and one more
  data Before (size : ℕ) : ℕ → Type 0 where
    Nothing : Before size zero
    Around : (before : ℕ) (x : Key × Row) (front shown : List (Key × Row)) → rows ≡ front ++ x ∷ shown → length front ≡ before → length shown ≡ size → Before size (suc before)

  before_last : (size count : ℕ) → length rows - size ≡ count → Before size count
  before_last size zero is = Nothing
  before_last size (suc before) is = by (parted before rows)
    where
      by : ((drop before rows ≡ []) × (length rows ≤ before)) ⊎ ((front : List (Key × Row)) × (x : Key × Row) × (shown : List (Key × Row)) × (rows ≡ front ++ x ∷ shown) × (length front ≡ before)) → Before size (suc before)
      by (inl none) =
          let short = none.1 in
          absurd (omega (arith, is, short))
      by (inr (front, x, shown, e, count)) =
          let long : length rows ≡ length front + length (x ∷ shown) = ap length e ∙ length-append front (x ∷ shown) in
          Around before x front shown e count (omega (arith, long, is, count))

  pub last_sides : (size : ℕ) → 1 ≤ size → LastSides size (last_in size rows)
  last_sides size one = by (length rows - size) refl (before_last size (length rows - size) refl)
    where
      by : (count : ℕ) → length rows - size ≡ count → Before size count → LastSides size (last_in size rows)
      by _ is Nothing = subst (LastSides size) (sym (ap (λ n. last_behind n rows) is)) (record { shown = refl; others = tt })
      by _ is (Around before x front shown e count size_shown) = last_sides_at size x front shown e size_shown one

pub some_size : (most : ℕ) → 1 ≤ page_size most
some_size most = le-min {k = 1} (omega arith) (le-max_right most 1)

-- The questions of pages.

room_above : (low : Key) (up : Option Key) → IfSome up (λ end. key_cmp low end ≡ Less) → is_empty_range (Some low) up ≡ false
room_above low None less = refl
room_above low (Some end) less = ap (λ r. not (is_lt r)) less

module _ (schema : Schema) (state : State) (content : StateIs (QuestionFits schema) (RowFits schema) state) (table most : ℕ) (lower upper : Option Key) (check : check_question schema (Span table lower upper) ≡ None) where
  abbrev all : List (Key × Row)
  all = rows_between state table lower upper

  abbrev size : ℕ
  size = page_size most

  abbrev few_in : Option Key → Option Key → Type 0
  few_in low up = answer_size (answer (Span table low up) state) ≤ MAX_ANSWER_ROWS

  few_are : (low up : Option Key) → length (rows_between state table low up) ≤ size + 1 → few_in low up
  few_are low up h =
      let fits = size_fits most in
      let is = size_is state table low up in
      omega (arith, h, fits, is)

  -- each row's key may be asked for
  row_fits : (definition : Table) → slice_get schema table ≡ Some definition → (x : Key × Row) (front others : List (Key × Row)) → all ≡ front ++ x ∷ others → check_key_in definition x.0 ≡ None
  row_fits definition at x front others is =
      let stands = (row_in state table lower upper x front others is).1 in
      let asked = (content (table, x.0) x.1 stands).0 in
      sym (in_place schema table definition at (λ d. check_key_in d x.0)) ∙ asked

  next_fits : (definition : Table) → slice_get schema table ≡ Some definition → (x : Key × Row) (front others : List (Key × Row)) → all ≡ front ++ x ∷ others → check_end definition (first_key others) ≡ None
  next_fits definition at x front [] is = refl
  next_fits definition at x front (y ∷ others) is = row_fits definition at y (front ++ x ∷ []) others (is ∙ sym (append_assoc front (x ∷ []) (y ∷ others)))

  alike_rows : (low up : Option Key) (other : State) → answer (Span table low up) other ≡ answer (Span table low up) state → rows_between other table low up ≡ rows_between state table low up
  alike_rows low up other same = ap rows_answered same

  -- where the range fits the schema, its table is there
  there : (definition : Table) × (slice_get schema table ≡ Some definition)
  there = by (slice_get schema table) refl
    where
      by : (found : Option Table) → slice_get schema table ≡ found → (definition : Table) × (slice_get schema table ≡ Some definition)
      by None none = absurd (no_table (ap (λ t. elim t as (λ _. Option Fault) [ None ↦ Some NoTable | Some d ↦ check_range d lower upper ]) none) check)
      by (Some definition) at = (definition, at)

  -- the rest is the end of a range that fits it too
  leads_first : IfSome (first_in size all).1 (λ rest. check_question schema (Span table (Some rest) upper) ≡ None)
  leads_first = by (parted size all)
    where
      Leads : List (Key × Row) → Type 0
      Leads rows = IfSome (first_key rows) (λ rest. check_question schema (Span table (Some rest) upper) ≡ None)

      by : ((drop size all ≡ []) × (length all ≤ size)) ⊎ ((front : List (Key × Row)) × (x : Key × Row) × (others : List (Key × Row)) × (all ≡ front ++ x ∷ others) × (length front ≡ size)) → Leads (drop size all)
      by (inl none) = subst Leads (sym none.0) tt
      by (inr (front, x, others, is, count)) =
          let fits = range_fits schema table there.0 there.1 lower upper check in
          subst Leads (sym (ap (drop size) is ∙ first_dropped size x front others count))
          (askable_by schema table there.0 there.1 (Some x.0) upper (row_fits there.0 there.1 x front others is) fits.1 (room_above x.0 upper (row_in state table lower upper x front others is).0.below))

  leads_last : IfSome (last_in size all).1 (λ rest. check_question schema (Span table lower (Some rest)) ≡ None)
  leads_last = by (length all - size) refl (before_last state table lower upper size (length all - size) refl)
    where
      Leads : Option Key → Type 0
      Leads rest = IfSome rest (λ rest. check_question schema (Span table lower (Some rest)) ≡ None)

      at : (x : Key × Row) (front shown : List (Key × Row)) → all ≡ front ++ x ∷ shown → length shown ≡ size → Leads (last_in size all).1
      at x front [] is count = let one = some_size most in absurd (omega (arith, count, one))
      at x front (s ∷ shown) is count =
          let fits = range_fits schema table there.0 there.1 lower upper check in
          let less = next_less x front (s ∷ shown) (rise state table lower upper x front (s ∷ shown) is) in
          subst Leads (sym (λ i. (last_in size (is i)).1)) (subst Leads (sym (λ i. (last_is size x front (s ∷ shown) count i).1))
          (askable_by schema table there.0 there.1 lower (Some s.0) fits.0 (next_fits there.0 there.1 x front (s ∷ shown) is) (some_room state table lower upper x front (s ∷ shown) is lower s.0 (row_in state table lower upper x front (s ∷ shown) is).0.from less)))

      by : (count : ℕ) → length all - size ≡ count → Before state table lower upper size count → Leads (last_in size all).1
      by _ is Nothing = subst (λ n. Leads (last_behind n all).1) (sym is) tt
      by _ is (Around before x front shown e count size_shown) = at x front shown e size_shown

  -- what tells no more than it is answered shows its side in each state that answers alike
  first_of : (question : Question) → check_question schema question ≡ None → answer_size (answer question state) ≤ MAX_ANSWER_ROWS
      → ((other : State) → answer question other ≡ answer question state → first_in size (rows_between other table lower upper) ≡ first_in size (rows_answered (answer question state)))
      → rows_answered (answer question state) ≡ take (size + 1) all
      → IsFirstPage schema state table most lower upper question
  first_of question askable few told answered =
      let sides = first_sides state table lower upper size in
      record {
        page = record {
          askable = askable;
          few = few;
          told = told;
          own = λ other same.
              let there = subst (FirstSides other table lower upper size) (told other same) (first_sides other table lower upper size) in
              sees other table lower (option_or (first_in size (rows_answered (answer question state))).1 upper) (first_in size (rows_answered (answer question state))).0 there.shown;
          parted = only_parted (first_in size (rows_answered (answer question state))).1 (subst (FirstSides state table lower upper size) (told state refl) sides).others;
        };
        answered = answered;
        others = only_others (first_in size all).1 sides.others;
        leads = leads_first;
      }
    where
      only_parted : (rest : Option Key) → IfSome rest (λ end. Parted table lower upper end × (rows_between state table (Some end) upper ≡ drop size all)) → IfSome rest (Parted table lower upper)
      only_parted None h = tt
      only_parted (Some end) h = h.0

      only_others : (rest : Option Key) → IfSome rest (λ end. Parted table lower upper end × (rows_between state table (Some end) upper ≡ drop size all)) → IfSome rest (λ end. rows_between state table (Some end) upper ≡ drop size all)
      only_others None h = tt
      only_others (Some end) h = h.1

  -- the same of a last page
  last_of : (question : Question) → check_question schema question ≡ None → answer_size (answer question state) ≤ MAX_ANSWER_ROWS
      → ((other : State) → answer question other ≡ answer question state → last_in size (rows_between other table lower upper) ≡ last_in size (rows_answered (answer question state)))
      → rows_answered (answer question state) ≡ drop (length all - (size + 1)) all
      → IsLastPage schema state table most lower upper question
  last_of question askable few told answered =
      let sides = last_sides state table lower upper size (some_size most) in
      record {
        page = record {
          askable = askable;
          few = few;
          told = told;
          own = λ other same.
              let there = subst (LastSides other table lower upper size) (told other same) (last_sides other table lower upper size (some_size most)) in
              sees other table (option_or (last_in size (rows_answered (answer question state))).1 lower) upper (last_in size (rows_answered (answer question state))).0 there.shown;
          parted = only_parted (last_in size (rows_answered (answer question state))).1 (subst (LastSides state table lower upper size) (told state refl) sides).others;
        };
        answered = answered;
        others = only_others (last_in size all).1 sides.others;
        leads = leads_last;
      }
    where
      only_parted : (rest : Option Key) → IfSome rest (λ end. Parted table lower upper end × (rows_between state table lower (Some end) ≡ take (length all - size) all)) → IfSome rest (Parted table lower upper)
      only_parted None h = tt
      only_parted (Some end) h = h.0

      only_others : (rest : Option Key) → IfSome rest (λ end. Parted table lower upper end × (rows_between state table lower (Some end) ≡ take (length all - size) all)) → IfSome rest (λ end. rows_between state table lower (Some end) ≡ take (length all - size) all)
      only_others None h = tt
      only_others (Some end) h = h.1

  -- the range itself is asked where no row is left
  alone_first : length all ≤ size + 1 → IsFirstPage schema state table most lower upper (Span table lower upper)
  alone_first short =
      first_of (Span table lower upper) check (few_are lower upper short)
      (λ other same. ap (first_in size) (alike_rows lower upper other same))
      (sym (take_all (size + 1) all short))

  -- and else the range up to an end behind the next row
  led_first : (definition : Table) → slice_get schema table ≡ Some definition → (x : Key × Row) (front others : List (Key × Row)) (is : all ≡ front ++ x ∷ others) → length front ≡ size
      → (end : Option Key) → Reaches state table lower upper x front others is definition end → IsFirstPage schema state table most lower upper (Span table lower end)
  led_first definition at x front others is count end reach =
      let fits = range_fits schema table definition at lower upper check in
      let n : length (rows_between state table lower end) ≡ length front + length (x ∷ []) = ap length reach.answered ∙ length-append front (x ∷ []) in
      first_of (Span table lower end)
      (askable_by schema table definition at lower end fits.0 reach.fits reach.room)
      (few_are lower end (omega (arith, n, count)))
      (λ other same.
      let whole = reach.whole other in
      ap (first_in size) (whole.1 ∙ ap (λ rows. rows ++ whole.0) (alike_rows lower end other same ∙ reach.answered) ∙ append_assoc front (x ∷ []) whole.0)
      ∙ first_is size x front whole.0 count
      ∙ sym (ap (first_in size) reach.answered ∙ first_is size x front [] count))
      (reach.answered ∙ sym (ap (take (size + 1)) is ∙ one_more size x front others count))

  first_by : (definition : Table) → slice_get schema table ≡ Some definition → IsFirstPage schema state table most lower upper (Span table lower (first_end definition upper (drop size all)))
  first_by definition at = by (parted size all)
    where
      by : ((drop size all ≡ []) × (length all ≤ size)) ⊎ ((front : List (Key × Row)) × (x : Key × Row) × (others : List (Key × Row)) × (all ≡ front ++ x ∷ others) × (length front ≡ size))
          → IsFirstPage schema state table most lower upper (Span table lower (first_end definition upper (drop size all)))
      by (inl none) = subst (λ rest. IsFirstPage schema state table most lower upper (Span table lower (first_end definition upper rest))) (sym none.0) (alone_first (let short = none.1 in omega (arith, short)))
      by (inr (front, x, others, is, count)) =
          let fits = range_fits schema table definition at lower upper check in
          let left : drop size all ≡ x ∷ others = ap (drop size) is ∙ first_dropped size x front others count in
          subst (λ rest. IsFirstPage schema state table most lower upper (Span table lower (first_end definition upper rest))) (sym left)
          (led_first definition at x front others is count (end_behind definition x.0 (option_or (first_key others) upper))
          (reaches definition state table lower upper x front fits.1 fits.2 others is (next_fits definition at x front others is)))

  -- where the range fits the schema, its table is there
  first_at : (found : Option Table) → slice_get schema table ≡ found
      → IsFirstPage schema state table most lower upper (elim found as (λ _. Question) [
        | None ↦ Span table lower upper
        | Some definition ↦ Span table lower (first_end definition upper (drop size all))
      ])
  first_at None none = absurd (no_table (ap (λ t. elim t as (λ _. Option Fault) [ None ↦ Some NoTable | Some d ↦ check_range d lower upper ]) none) check)
  first_at (Some definition) at = first_by definition at

  first_page_is : IsFirstPage schema state table most lower upper (first_question schema state table lower upper most)
  first_page_is =
      subst (IsFirstPage schema state table most lower upper)
      (sym (ap (λ f. elim f as (λ _. Question) [
        | Some fault ↦ Span table lower upper
        | None ↦ elim (slice_get schema table) as (λ _. Question) [
          | None ↦ Span table lower upper
          | Some definition ↦ Span table lower (first_end definition upper (drop size all))
        ]
      ]) check))
      (first_at (slice_get schema table) refl)

  -- A last page.

  alone_last : length all - (size + 1) ≡ zero → IsLastPage schema state table most lower upper (Span table lower upper)
  alone_last none =
      last_of (Span table lower upper) check (few_are lower upper (omega (arith, none)))
      (λ other same. ap (last_in size) (alike_rows lower upper other same))
      (sym (ap (λ n. drop n all) none))

  led_last : (definition : Table) → slice_get schema table ≡ Some definition → (x : Key × Row) (front shown : List (Key × Row)) → all ≡ front ++ x ∷ shown → length shown ≡ size
      → IsLastPage schema state table most lower upper (Span table (Some x.0) upper)
  led_last definition at x front shown is count =
      let fits = range_fits schema table definition at lower upper check in
      let answered = from_row state table lower upper x front shown is in
      let inside = row_in state table lower upper x front shown is in
      let long : length all ≡ length front + length (x ∷ shown) = ap length is ∙ length-append front (x ∷ shown) in
      let before : length all - (size + 1) ≡ length front = omega (arith, long, count) in
      let n : length (rows_between state table (Some x.0) upper) ≡ suc (length shown) = ap length answered in
      last_of (Span table (Some x.0) upper)
      (askable_by schema table definition at (Some x.0) upper (row_fits definition at x front shown is) fits.1 (room_above x.0 upper inside.0.below))
      (few_are (Some x.0) upper (omega (arith, n, count)))
      (λ other same.
      let cut = parted_at table lower upper x.0 (row_within state table lower upper x front shown is) other in
      let earlier = rows_between other table lower (Some x.0) in
      ap (last_in size) (cut ∙ ap (λ rows. earlier ++ rows) (alike_rows (Some x.0) upper other same ∙ answered))
      ∙ last_is size x earlier shown count
      ∙ sym (ap (last_in size) answered ∙ last_is size x [] shown count))
      (answered ∙ sym (ap (λ n. drop n all) before ∙ ap (drop (length front)) is ∙ drop-append_seam front (x ∷ shown)))

  last_by : (definition : Table) → slice_get schema table ≡ Some definition → IsLastPage schema state table most lower upper (Span table (last_begin lower (length all - size) all) upper)
  last_by definition at = by (length all - size) refl (before_last state table lower upper size (length all - size) refl)
    where
      by : (count : ℕ) → length all - size ≡ count → Before state table lower upper size count → IsLastPage schema state table most lower upper (Span table (last_begin lower (length all - size) all) upper)
      by _ is Nothing = subst (λ n. IsLastPage schema state table most lower upper (Span table (last_begin lower n all) upper)) (sym is) (alone_last (omega (arith, is)))
      by _ is (Around before x front shown e count size_shown) =
          let key : last_begin lower (length all - size) all ≡ Some x.0 =
          ap (λ n. last_begin lower n all) is ∙ ap (λ n. first_key (drop n all)) (sym count) ∙ ap (λ l. first_key (drop (length front) l)) e ∙ ap first_key (drop-append_seam front (x ∷ shown)) in
          subst (λ low. IsLastPage schema state table most lower upper (Span table low upper)) (sym key) (led_last definition at x front shown e size_shown)

  last_at : (found : Option Table) → slice_get schema table ≡ found → IsLastPage schema state table most lower upper (Span table (last_begin lower (length all - size) all) upper)
  last_at None none = absurd (no_table (ap (λ t. elim t as (λ _. Option Fault) [ None ↦ Some NoTable | Some d ↦ check_range d lower upper ]) none) check)
  last_at (Some definition) at = last_by definition at

  last_page_is : IsLastPage schema state table most lower upper (last_question schema state table lower upper most)
  last_page_is =
      subst (IsLastPage schema state table most lower upper)
      (sym (ap (λ f. elim f as (λ _. Question) [
        | Some fault ↦ Span table lower upper
        | None ↦ Span table (last_begin lower (length all - size) all) upper
      ]) check))
      (last_at (slice_get schema table) refl)

pub first_pages : FirstPages
first_pages schema state table most lower upper content check = first_page_is schema state content table most lower upper check

pub last_pages : LastPages
last_pages schema state table most lower upper content check = last_page_is schema state content table most lower upper check

-- Walks.

module _ (state : State) (table most : ℕ) where
  first_step : (lower upper rest : Option Key) (shown : List (Key × Row)) (walk : List Told)
      → rows_between state table lower (option_or rest upper) ≡ shown
      → IfSome rest (λ end. Parted table lower upper end)
      → elim rest as (λ _. Type 0) [ None ↦ walk ≡ [] | Some end ↦ IsFirstWalk state table upper most (Some end) walk ]
      → ((end : Option Key) → IsFirstWalk state table upper most end walk → IsRange state table end upper (first_walked walk) (λ writes. first_seen table writes upper end walk))
      → IsRange state table lower upper (shown ++ first_walked walk) (λ writes. rows_answered (overlay (Span table lower (option_or rest upper)) writes (Rows shown)) ++ first_seen table writes upper rest walk)
  first_step lower upper None shown walk same parts leads later =
      subst (λ w. IsRange state table lower upper (shown ++ first_walked w) (λ writes. rows_answered (overlay (Span table lower upper) writes (Rows shown)) ++ first_seen table writes upper None w)) (sym leads)
      (record {
        rows = append-nil shown ∙ sym same;
        own = λ writes distinct. append-nil (rows_answered (overlay (Span table lower upper) writes (Rows shown))) ∙ sees state table lower upper shown same writes distinct;
      })
  first_step lower upper (Some end) shown walk same parts leads later =
      let others = later (Some end) leads in
      record {
        rows = (λ i. sym same i ++ others.rows i) ∙ sym (parts state);
        own = λ writes distinct. (λ i. sees state table lower (Some end) shown same writes distinct i ++ others.own writes distinct i) ∙ sym (parts (apply state writes));
      }

  first_walk : (upper : Option Key) (walk : List Told) (lower : Option Key) → IsFirstWalk state table upper most lower walk → IsRange state table lower upper (first_walked walk) (λ writes. first_seen table writes upper lower walk)
  first_walk upper [] lower leads = absurd leads
  first_walk upper (told ∷ walk) lower leads =
      let sides = subst (FirstSides state table lower upper (page_size most)) (sym leads.0) (first_sides state table lower upper (page_size most)) in
      first_step lower upper told.1 told.0 walk sides.shown (only told.1 sides.others) leads.1 (first_walk upper walk)
    where
      only : (rest : Option Key) → IfSome rest (λ end. Parted table lower upper end × (rows_between state table (Some end) upper ≡ drop (page_size most) (rows_between state table lower upper))) → IfSome rest (λ end. Parted table lower upper end)
      only None h = tt
      only (Some end) h = h.0

  last_step : (lower upper rest : Option Key) (shown : List (Key × Row)) (walk : List Told)
      → rows_between state table (option_or rest lower) upper ≡ shown
      → IfSome rest (λ end. Parted table lower upper end)
      → elim rest as (λ _. Type 0) [ None ↦ walk ≡ [] | Some end ↦ IsLastWalk state table lower most (Some end) walk ]
      → ((end : Option Key) → IsLastWalk state table lower most end walk → IsRange state table lower end (last_walked walk) (λ writes. last_seen table writes lower end walk))
      → IsRange state table lower upper (last_walked walk ++ shown) (λ writes. last_seen table writes lower rest walk ++ rows_answered (overlay (Span table (option_or rest lower) upper) writes (Rows shown)))
  last_step lower upper None shown walk same parts leads later =
      subst (λ w. IsRange state table lower upper (last_walked w ++ shown) (λ writes. last_seen table writes lower None w ++ rows_answered (overlay (Span table lower upper) writes (Rows shown)))) (sym leads)
      (record {
        rows = sym same;
        own = λ writes distinct. sees state table lower upper shown same writes distinct;
      })
  last_step lower upper (Some end) shown walk same parts leads later =
      let others = later (Some end) leads in
      record {
        rows = (λ i. others.rows i ++ sym same i) ∙ sym (parts state);
        own = λ writes distinct. (λ i. others.own writes distinct i ++ sees state table (Some end) upper shown same writes distinct i) ∙ sym (parts (apply state writes));
      }

  last_walk : (lower : Option Key) (walk : List Told) (upper : Option Key) → IsLastWalk state table lower most upper walk → IsRange state table lower upper (last_walked walk) (λ writes. last_seen table writes lower upper walk)
  last_walk lower [] upper leads = absurd leads
  last_walk lower (told ∷ walk) upper leads =
      let sides = subst (LastSides state table lower upper (page_size most)) (sym leads.0) (last_sides state table lower upper (page_size most) (some_size most)) in
      last_step lower upper told.1 told.0 walk sides.shown (only told.1 sides.others) leads.1 (last_walk lower walk)
    where
      only : (rest : Option Key) → IfSome rest (λ end. Parted table lower upper end × (rows_between state table lower (Some end) ≡ take (length (rows_between state table lower upper) - page_size most) (rows_between state table lower upper))) → IfSome rest (λ end. Parted table lower upper end)
      only None h = tt
      only (Some end) h = h.0

pub first_walks : FirstWalks
first_walks state table most lower upper walk leads = first_walk state table most upper walk lower leads

pub last_walks : LastWalks
last_walks state table most lower upper walk leads = last_walk state table most lower walk upper leads

-- Each walk comes to its end, since each page that has a rest shows a row.

no_rest : (n : ℕ) (rows : List (Key × Row)) (end : Key) → length rows ≤ 0 → first_key (drop n rows) ≡ Some end → ⊥
no_rest zero [] end none e = cc
no_rest (suc n) [] end none e = cc
no_rest n (x ∷ rows) end none e = absurd (omega (arith, none))

no_rest_before : (n : ℕ) (rows : List (Key × Row)) (end : Key) → length rows ≤ 0 → (last_behind n rows).1 ≡ Some end → ⊥
no_rest_before zero rows end none e = cc
no_rest_before (suc n) rows end none e = no_rest (suc n) rows end none e

module _ (state : State) (table most : ℕ) where
  abbrev FirstEnds : Option Key → ℕ → Option Key → Type 0
  FirstEnds upper fuel lower = (walk : List Told) × IsFirstWalk state table upper most lower walk × (length walk ≤ fuel + 1)

  first_ends : (upper : Option Key) (fuel : ℕ) (lower : Option Key) → length (rows_between state table lower upper) ≤ fuel → FirstEnds upper fuel lower
  first_ends upper zero lower none = by (first_in (page_size most) (rows_between state table lower upper)) refl
    where
      by : (told : Told) → told ≡ first_in (page_size most) (rows_between state table lower upper) → FirstEnds upper zero lower
      by (shown, None) e = ((shown, None) ∷ [], (e, refl), omega arith)
      by (shown, Some end) e = absurd (no_rest (page_size most) (rows_between state table lower upper) end none (λ i. (sym e i).1))
  first_ends upper (suc fuel) lower few = by (first_in (page_size most) (rows_between state table lower upper)) refl (first_ends upper fuel)
    where
      by : (told : Told) → told ≡ first_in (page_size most) (rows_between state table lower upper) → ((end : Option Key) → length (rows_between state table end upper) ≤ fuel → FirstEnds upper fuel end) → FirstEnds upper (suc fuel) lower
      by (shown, None) e later = ((shown, None) ∷ [], (e, refl), omega arith)
      by (shown, Some end) e later =
          let sides = subst (FirstSides state table lower upper (page_size most)) (sym e) (first_sides state table lower upper (page_size most)) in
          let left : length (rows_between state table (Some end) upper) ≡ length (rows_between state table lower upper) - page_size most = ap length sides.others.1 ∙ length-drop (page_size most) (rows_between state table lower upper) in
          let one = some_size most in
          let rest = later (Some end) (omega (arith, left, one, few)) in
          let short = rest.2 in
          ((shown, Some end) ∷ rest.0, (e, rest.1), omega (arith, short))

  abbrev LastEnds : Option Key → ℕ → Option Key → Type 0
  LastEnds lower fuel upper = (walk : List Told) × IsLastWalk state table lower most upper walk × (length walk ≤ fuel + 1)

  last_ends : (lower : Option Key) (fuel : ℕ) (upper : Option Key) → length (rows_between state table lower upper) ≤ fuel → LastEnds lower fuel upper
  last_ends lower zero upper none = by (last_in (page_size most) (rows_between state table lower upper)) refl
    where
      by : (told : Told) → told ≡ last_in (page_size most) (rows_between state table lower upper) → LastEnds lower zero upper
      by (shown, None) e = ((shown, None) ∷ [], (e, refl), omega arith)
      by (shown, Some end) e = absurd (no_rest_before (length (rows_between state table lower upper) - page_size most) (rows_between state table lower upper) end none (λ i. (sym e i).1))
  last_ends lower (suc fuel) upper few = by (last_in (page_size most) (rows_between state table lower upper)) refl (last_ends lower fuel)
    where
      by : (told : Told) → told ≡ last_in (page_size most) (rows_between state table lower upper) → ((end : Option Key) → length (rows_between state table lower end) ≤ fuel → LastEnds lower fuel end) → LastEnds lower (suc fuel) upper
      by (shown, None) e later = ((shown, None) ∷ [], (e, refl), omega arith)
      by (shown, Some end) e later =
          let sides = subst (LastSides state table lower upper (page_size most)) (sym e) (last_sides state table lower upper (page_size most) (some_size most)) in
          let rows = rows_between state table lower upper in
          let taken : length (rows_between state table lower (Some end)) ≡ length rows - page_size most = ap length sides.others.1 ∙ length-take-le (length rows - page_size most) rows (omega arith) in
          let one = some_size most in
          let rest = later (Some end) (omega (arith, taken, one, few)) in
          let short = rest.2 in
          ((shown, Some end) ∷ rest.0, (e, rest.1), omega (arith, short))

pub walks_end : WalksEnd
walks_end state table most lower upper = (
  first_ends state table most upper (length (rows_between state table lower upper)) lower (omega arith),
  last_ends state table most lower (length (rows_between state table lower upper)) upper (omega arith),
)
