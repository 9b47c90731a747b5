-- The rows of a state, table by table.
use Rattle.std.proofs.Common.{◌≡◌, ℕ, ◌+◌, ◌<◌, ◌≤◌, nat_eq, nat_le, Bool, true, false, ◌&&◌, cond, T, List, [], ◌∷◌, ◌++◌, None, refl, sym, ap, ◌∙◌, arith}
use Rattle.std.specs.Prelude.{map, filter}
use Rattle.std.proofs.Common.{inl, inr, leb-true, eqb-true}
use Rattle.std.proofs.lemmas.Bool.{cases_lt}
use Rattle.std.proofs.lemmas.Bool.Decides.{nat_tests}
use Rattle.std.proofs.lemmas.Cmp.{ranked}
use Rattle.std.proofs.lemmas.List.{nil_from_length, map-append}
use Rattle.std.specs.declared.cmp.Ordering.{Ordering}
use Rattle.std.specs.declared.cmp.Ordering.TheVariants.{Less, Equal, Greater}
use Rattle.std.specs.Ordering.{is_lt, nat_cmp, ordering_then}
use Rattle.std.specs.FinMap.{get, empty, entries, retain_keys, from_sorted, is_sorted, entries_sorted, get-entries, get-retain_keys, get-from_sorted, get-empty, entries-from_sorted, len-entries, len-empty}
use Rattle.std.specs.FinMap.Entries.{below_all, find-where_key, is_sorted-where_key}
use Rattle.occ_types.specs.Key.{Key, key_cmp}
use Rattle.occ_types.specs.Object.{Object, object_cmp, object_cmp-IsAntisymmetric}
use Rattle.occ_types.specs.Question.{Span, asks}
use Rattle.occ_types.specs.Row.{Row}
use Rattle.occ_types.proofs.Asked.{asks-Span}
use Rattle.occ_model.specs.State.{State, Answer, Found, Rows, answer}
use Rattle.occ_model.proofs.States.{same_state}
use Rattle.std.specs.Borrow.{Bor}
use Rattle.std.specs.Iterator.{Yields, YieldsFirstBy}
use Rattle.occ_book.specs.KeyRefs.{key_lent}
use Rattle.occ_book.specs.declared.key_refs.KeyRef as refs
use Rattle.occ_book.specs.Content.{placed}
use Rattle.occ_print.specs.Books.{rows_at}

abbrev Entries : Type 0
Entries = List (Object × Row)

-- what is kept of a state is what passes the test
kept : (state : State) (test : Object → Bool) → entries (retain_keys state test) ≡ filter (λ e. test e.0) (entries state)
kept state test =
    let es = filter (λ e. test e.0) (entries state) in
    let sorted = is_sorted-where_key object_cmp test (entries state) (entries_sorted state) in
    let alike : (o : Object) (x : Object) → object_cmp o x ≡ Equal → test x ≡ test o = λ o x e. sym (ap test (object_cmp-IsAntisymmetric o x e)) in
    let same = same_state (retain_keys state test) (from_sorted es) (λ o.
    get-retain_keys state test o (alike o)
    ∙ ap (λ x. cond (test o) x None) (get-entries state o)
    ∙ sym (get-from_sorted object_cmp es o sorted ∙ find-where_key object_cmp test o (alike o) (entries state))) in
    ap entries same ∙ entries-from_sorted object_cmp es sorted

first : (a b : Bool) → T (a && b) → T a
first true b p = tt
first false b p = p

second : (a b : Bool) → T (a && b) → T b
second true b p = p
second false b p = absurd p

-- the rows of the tables from a place on
abbrev pub rows_from : ℕ → State → Entries
rows_from place state = filter (λ e. nat_le place e.0.0) (entries state)

-- an object that comes later is of no earlier table
later : (a b : Object) → T (is_lt (object_cmp a b)) → a.0 ≤ b.0
later a b h = by (nat_cmp a.0 b.0) refl h
  where
    by : (r : Ordering) → r ≡ nat_cmp a.0 b.0 → T (is_lt (ordering_then r (key_cmp a.1 b.1))) → a.0 ≤ b.0
    by Less e h = let lt = ranked a.0 b.0 Less e in omega arith
    by Equal e h = let eq = ranked a.0 b.0 Equal e in omega arith
    by Greater e h = absurd h

-- of a table before an object there is nothing behind it
passed_by : (place : ℕ) (o : Object) (es : Entries) → place < o.0 → T (below_all object_cmp o es) → filter (λ e. nat_eq e.0.0 place) es ≡ []
passed_by place o [] past h = refl
passed_by place o (e ∷ es) past h =
    let after : o.0 ≤ e.0.0 = later o e.0 (first _ _ h) in
    let apart : nat_eq e.0.0 place ≡ false = grind (arith, nat_tests) in
    ap (λ b. cond b (e ∷ filter (λ e. nat_eq e.0.0 place) es) (filter (λ e. nat_eq e.0.0 place) es)) apart ∙ passed_by place o es past (second _ _ h)

-- one more element, before the parts or in the middle
drawn : {X : Type 0} (x : X) (ps qs rs : List X) (p q r b c d : Bool) → p ≡ b → q ≡ c → r ≡ d → cond b (x ∷ ps) ps ≡ cond c (x ∷ qs) qs ++ cond d (x ∷ rs) rs → cond p (x ∷ ps) ps ≡ cond q (x ∷ qs) qs ++ cond r (x ∷ rs) rs
drawn x ps qs rs p q r b c d pe qe re h =
    ap (λ t. cond t (x ∷ ps) ps) pe ∙ h ∙ sym (λ j. cond (qe j) (x ∷ qs) qs ++ cond (re j) (x ∷ rs) rs)

-- in order, the rows of a table stand before those of the tables behind it
split : (place : ℕ) (es : Entries) → T (is_sorted object_cmp es)
    → filter (λ e. nat_le place e.0.0) es ≡ filter (λ e. nat_eq e.0.0 place) es ++ filter (λ e. nat_le (place + 1) e.0.0) es
split place [] h = refl
split place (e ∷ es) h =
    let ps = filter (λ e. nat_le place e.0.0) es in
    let qs = filter (λ e. nat_eq e.0.0 place) es in
    let rs = filter (λ e. nat_le (place + 1) e.0.0) es in
    let rest : ps ≡ qs ++ rs = split place es (second _ _ h) in
    elim (cases_lt e.0.0 place) [
      | inl before ↦ (
          let p : nat_le place e.0.0 ≡ false = grind (arith, nat_tests) in
          let q : nat_eq e.0.0 place ≡ false = grind (arith, nat_tests) in
          let r : nat_le (place + 1) e.0.0 ≡ false = grind (arith, nat_tests) in
          drawn e ps qs rs _ _ _ false false false p q r rest)
      | inr from ↦ elim (cases_lt place e.0.0) [
        | inl behind ↦ (
            let p : nat_le place e.0.0 ≡ true = grind (arith, nat_tests) in
            let q : nat_eq e.0.0 place ≡ false = grind (arith, nat_tests) in
            let r : nat_le (place + 1) e.0.0 ≡ true = grind (arith, nat_tests) in
            let none : qs ≡ [] = passed_by place e.0 es behind (first _ _ h) in
            drawn e ps qs rs _ _ _ true false true p q r (ap (λ l. e ∷ l) (rest ∙ ap (λ l. l ++ rs) none) ∙ sym (ap (λ l. l ++ (e ∷ rs)) none)))
        | inr upto ↦ (
            let p : nat_le place e.0.0 ≡ true = grind (arith, nat_tests) in
            let q : nat_eq e.0.0 place ≡ true = grind (arith, nat_tests) in
            let r : nat_le (place + 1) e.0.0 ≡ false = grind (arith, nat_tests) in
            drawn e ps qs rs _ _ _ true true false p q r (ap (λ l. e ∷ l) rest))
      ]
    ]

pub rows_from-split : (place : ℕ) (state : State) → rows_from place state ≡ rows_at place state ++ rows_from (place + 1) state
rows_from-split place state = split place (entries state) (entries_sorted state)

from_first : (es : Entries) → filter (λ e. nat_le 0 e.0.0) es ≡ es
from_first [] = refl
from_first (e ∷ es) =
    let p : nat_le 0 e.0.0 ≡ true = grind (arith, nat_tests) in
    ap (λ b. cond b (e ∷ filter (λ e. nat_le 0 e.0.0) es) (filter (λ e. nat_le 0 e.0.0) es)) p ∙ ap (λ l. e ∷ l) (from_first es)

pub rows_from-first : (state : State) → rows_from 0 state ≡ entries state
rows_from-first state = from_first (entries state)

-- behind the last table there is nothing
pub rows_from-last : (place : ℕ) (state : State) → ((object : Object) → place ≤ object.0 → get state object ≡ None) → rows_from place state ≡ []
rows_from-last place state none =
    let test : Object → Bool = λ o. nat_le place o.0 in
    let same = same_state (retain_keys state test) empty (λ o.
    get-retain_keys state test o (λ x e. sym (ap test (object_cmp-IsAntisymmetric o x e))) ∙ by o (test o) refl ∙ sym (get-empty object_cmp o)) in
    sym (kept state test) ∙ ap entries same ∙ nil_from_length _ (sym (len-entries empty) ∙ len-empty object_cmp Row)
  where
    by : (o : Object) (b : Bool) → nat_le place o.0 ≡ b → cond b (get state o) None ≡ None
    by o true e = none o (leb-true place o.0 e)
    by o false e = refl

-- the rows of a table are what it answers to the range of all its keys
pub rows_at-answer : (place : ℕ) (state : State) → answer (Span place None None) state ≡ Rows (map (λ e. (e.0.1, e.1)) (rows_at place state))
unfolding answer
rows_at-answer place state =
    let test : Object → Bool = asks (Span place None None) in
    let said : (o : Object) → test o ≡ nat_eq o.0 place = λ o. asks-Span place o.0 None None o.1 ∙ and_true_right (nat_eq o.0 place) in
    ap (λ es. Rows (map (λ e. (e.0.1, e.1)) es)) (kept state test ∙ (λ j. filter (λ e. said e.0 j) (entries state)))
  where
    and_true_right : (b : Bool) → (b && true) ≡ b
    and_true_right true = refl
    and_true_right false = refl

-- the object of a table's row
abbrev pub under : ℕ → Key × Row → Object × Row
under place r = ((place, r.0), r.1)

-- the objects of a table's rows, put back
placed_back : (place : ℕ) (es : Entries) → map (under place) (map (λ e. (e.0.1, e.1)) (filter (λ e. nat_eq e.0.0 place) es)) ≡ filter (λ e. nat_eq e.0.0 place) es
placed_back place [] = refl
placed_back place (e ∷ es) =
    by (placed_back place es) (nat_eq e.0.0 place) refl
  where
    by : map (under place) (map (λ e. (e.0.1, e.1)) (filter (λ e. nat_eq e.0.0 place) es)) ≡ filter (λ e. nat_eq e.0.0 place) es → (b : Bool) → nat_eq e.0.0 place ≡ b → map (under place) (map (λ e. (e.0.1, e.1)) (cond b (e ∷ filter (λ e. nat_eq e.0.0 place) es) (filter (λ e. nat_eq e.0.0 place) es))) ≡ cond b (e ∷ filter (λ e. nat_eq e.0.0 place) es) (filter (λ e. nat_eq e.0.0 place) es)
    by rest true is = λ j. ((sym (eqb-true e.0.0 place is) j, e.0.1), e.1) ∷ rest j
    by rest false is = rest

abbrev rows_in : Answer → List (Key × Row)
rows_in (Found row) = []
rows_in (Rows rows) = rows

-- rows that a table answers are its rows
pub placed-is : (place : ℕ) (state : State) (rows : List (Key × Row)) → Rows rows ≡ answer (Span place None None) state → placed place rows ≡ rows_at place state
placed-is place state rows is =
    let same : rows ≡ map (λ e. (e.0.1, e.1)) (rows_at place state) = ap rows_in (is ∙ rows_at-answer place state) in
    ap (placed place) same ∙ placed_back place (entries state)

placed-append : (place : ℕ) (xs ys : List (Key × Row)) → placed place (xs ++ ys) ≡ placed place xs ++ placed place ys
placed-append place xs ys = map-append (under place) xs ys

module _ {Z : Type 0} where
  -- the key and the row that are lent
  abbrev pub shown : refs.KeyRef Z × Bor Row → Key × Row
  shown e = (key_lent e.0, e.1.now)

  -- those that were yielded stand before those that are left
  pub so-far : (xs : List (refs.KeyRef Z × Bor Row)) (s t : List (Key × Row)) → Yields (YieldsFirstBy shown (λ rest. rest)) s xs t → s ≡ map shown xs ++ t
  so-far [] s t y = y
  so-far (x ∷ xs) s t y = y.1 ∙ ap (λ es. shown x ∷ es) (so-far xs y.0 t y.2)

  -- one more row
  pub placed_more : (place : ℕ) (xs : List (refs.KeyRef Z × Bor Row)) (x : refs.KeyRef Z × Bor Row) → placed place (map shown (xs ++ x ∷ [])) ≡ placed place (map shown xs) ++ ((place, key_lent x.0), x.1.now) ∷ []
  placed_more place xs x = ap (placed place) (map-append shown xs (x ∷ [])) ∙ placed-append place (map shown xs) (shown x ∷ [])

  -- a row, with those before it and those behind it
  pub placed_amid : (place : ℕ) (es s t u : List (Key × Row)) (xs : List (refs.KeyRef Z × Bor Row)) (x : refs.KeyRef Z × Bor Row) → s ≡ es → s ≡ map shown xs ++ t → t ≡ shown x ∷ u
      → placed place es ≡ placed place (map shown xs) ++ ((((place, key_lent x.0), x.1.now) ∷ []) ++ placed place u)
  placed_amid place es s t u xs x start so_far more =
      ap (placed place) (sym start ∙ so_far ∙ ap (λ l. map shown xs ++ l) more) ∙ placed-append place (map shown xs) (shown x ∷ u)
