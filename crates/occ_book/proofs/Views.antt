-- Tables, seen as one state: what the state has at an object, what a change of one table does to it, and what it answers to a range.
use Rattle.std.proofs.Common.{Vec, ◌≡◌, ℕ, suc, zero, ◌+◌, ◌<◌, ◌≤◌, nat_eq, Bool, true, false, ◌&&◌, cond, T, List, [], ◌∷◌, ◌++◌, length, Option, None, Some, refl, sym, ap, subst, ◌∙◌, arith, slice_get, slice_set, slice_index_or, BTreeMap, Less, is_eq, is_lt}
use Rattle.std.specs.Prelude.{Result, OnOk}
use Rattle.occ_book.specs.Content.{AnswersUpTo}
use Rattle.occ_book.specs.Table.{row_under, rows_within, IsWritten, AreAllUpTo}
use Rattle.occ_book.proofs.Common.{Answer, nat_tests, sorted_head, sorted_tail, option_or, slice_get_past, slice_get_read, length-set, Bound, entries_between, AllByRecursion, IsStrictlySortedBy, keys_of, on, eq_by_cmp, ordering_then, eq_by_cmp_equiv, tied_itself, nat_cmp_total, unsigned_Decides, get, empty, find, is_sorted, get-from_entries, below_all, Key, key_cmp, key_cmp_total, Object, object_cmp, object_cmp_total, Span, asks, Row, key_of, end_of, asks-One, Rows, answer, answer_size, put, get-put, same_state, Content, is_backward, lower_bound, upper_bound, entries_within, placed, placed_from, state_of, content_of, IsPut}
use Rattle.std.specs.FinMap as finite
use Rattle.occ_types.specs.declared.keys.Key as code_key
use Rattle.occ_book.proofs.TableEntries.{row_at, code_of, answer-rows, answer-nowhere, backward-key}

-- what stands at a place after a write at another one or at its own
pub slice_get-slice_set : {X : Type 0} (maps : List X) (t u : ℕ) (n : X) → t < length maps → slice_get (slice_set maps t n) u ≡ cond (nat_eq u t) (Some n) (slice_get maps u)
slice_get-slice_set [] t u n h = absurd (omega arith)
slice_get-slice_set (m ∷ ms) zero zero n h = refl
slice_get-slice_set (m ∷ ms) zero (suc u) n h =
    let apart : nat_eq (suc u) zero ≡ false = grind (arith, nat_tests) in
    ap (λ b. cond b (Some n) (slice_get ms u)) (sym apart)
slice_get-slice_set (m ∷ ms) (suc t) zero n h =
    let apart : nat_eq zero (suc t) ≡ false = grind (arith, nat_tests) in
    ap (λ b. cond b (Some n) (Some m)) (sym apart)
slice_get-slice_set (m ∷ ms) (suc t) (suc u) n h =
    let same_test : nat_eq (suc u) (suc t) ≡ nat_eq u t = grind (arith, nat_tests) in
    slice_get-slice_set ms t u n (omega arith) ∙ ap (λ b. cond b (Some n) (slice_get ms u)) (sym same_test)

-- an object ties with another by its table and its key
tie : (t i : ℕ) (k l : Key) → eq_by_cmp object_cmp (t, k) (i, l) ≡ (nat_eq t i && is_eq (key_cmp k l))
unfolding asks
tie t i k l = asks-One t i k l

-- a test of the table before each test of a key is a test before all
gated : {X : Type 0} (b c : Bool) (x y : Option X) → cond (b && c) x (cond b y None) ≡ cond b (cond c x y) None
gated true c x y = refl
gated false c x y = refl

nothing : {X : Type 0} (b : Bool) → ◌≡◌ {A = Option X} None (cond b None None)
nothing true = refl
nothing false = refl

pub alone : (x : Option Row) → option_or x None ≡ x
alone None = refl
alone (Some x) = refl

both : (a b : Bool) → a ≡ true → T b → T (a && b)
both true b e h = h
both false b e h = cc

pub both_hold : (a b : Bool) → T a → T b → T (a && b)
both_hold true b g h = h
both_hold false b g h = absurd g

-- what is found in two lists
find-both : (q : Object) (xs ys : List (Object × Row)) → find object_cmp q (xs ++ ys) ≡ option_or (find object_cmp q xs) (find object_cmp q ys)
find-both q [] ys = refl
find-both q (e ∷ xs) ys =
    elim (eq_by_cmp object_cmp q e.0) as (λ b. cond b (Some e.1) (find object_cmp q (xs ++ ys)) ≡ option_or (cond b (Some e.1) (find object_cmp q xs)) (find object_cmp q ys)) [
      | true ↦ refl
      | false ↦ find-both q xs ys
    ]

-- the row under a key of a table that may be there
abbrev pub row_in : Option (List (Key × Row)) → Key → Option Row
row_in None k = None
row_in (Some rows) k = row_under rows k

find-placed : (t i : ℕ) (k : Key) (rows : List (Key × Row)) → find object_cmp (t, k) (placed i rows) ≡ cond (nat_eq t i) (row_under rows k) None
find-placed t i k [] = nothing (nat_eq t i)
find-placed t i k (e ∷ es) =
    (λ j. cond (tie t i k e.0 j) (Some e.1) (find-placed t i k es j))
    ∙ gated (nat_eq t i) (is_eq (key_cmp k e.0)) (Some e.1) (row_under es k)

-- nothing is found of a table before the first
find-before : (t i : ℕ) (k : Key) (tables : List (List (Key × Row))) → t < i → find object_cmp (t, k) (placed_from i tables) ≡ None
find-before t i k [] h = refl
find-before t i k (rows ∷ others) h =
    let apart : nat_eq t i ≡ false = grind (arith, nat_tests) in
    find-both (t, k) (placed i rows) (placed_from (suc i) others)
    ∙ (λ j. option_or ((find-placed t i k rows ∙ ap (λ b. cond b (row_under rows k) None) apart) j) (find-before t (suc i) k others (omega arith) j))

find-from : (t i n : ℕ) (k : Key) (tables : List (List (Key × Row))) → t ≡ i + n → find object_cmp (t, k) (placed_from i tables) ≡ row_in (slice_get tables n) k
find-from t i n k [] e = refl
find-from t i zero k (rows ∷ others) e =
    let here : nat_eq t i ≡ true = grind (arith, nat_tests) in
    find-both (t, k) (placed i rows) (placed_from (suc i) others)
    ∙ (λ j. option_or ((find-placed t i k rows ∙ ap (λ b. cond b (row_under rows k) None) here) j) (find-before t (suc i) k others (omega arith) j))
    ∙ alone (row_under rows k)
find-from t i (suc n) k (rows ∷ others) e =
    let apart : nat_eq t i ≡ false = grind (arith, nat_tests) in
    find-both (t, k) (placed i rows) (placed_from (suc i) others)
    ∙ (λ j. option_or ((find-placed t i k rows ∙ ap (λ b. cond b (row_under rows k) None) apart) j) (find-from t (suc i) n k others (omega arith) j))

-- the state has at an object what its table has at its key
pub get-state_of : (tables : List (List (Key × Row))) (t : ℕ) (k : Key) → get (state_of tables) (t, k) ≡ row_in (slice_get tables t) k
unfolding state_of
get-state_of tables t k = get-from_entries object_cmp_total (placed_from 0 tables) (t, k) ∙ find-from t 0 t k tables (omega arith)

-- one more table without rows adds nothing
pub placed_from-push : (i : ℕ) (tables : List (List (Key × Row))) (rows : List (Key × Row)) → rows ≡ [] → placed_from i (tables ++ rows ∷ []) ≡ placed_from i tables
placed_from-push i [] rows e = ap (λ es. placed i es ++ []) e
placed_from-push i (first ∷ others) rows e = ap (λ es. placed i first ++ es) (placed_from-push (suc i) others rows e)

pub state_of-empty : (tables : List (List (Key × Row))) → placed_from 0 tables ≡ [] → state_of tables ≡ empty
unfolding state_of
state_of-empty tables e = ap (λ es. finite.from_entries es) e

-- a write in one table is a write of the state
state_of-put : (tables : List (List (Key × Row))) (t : ℕ) (old new : List (Key × Row)) (key : Key) (row : Option Row) → t < length tables → slice_get tables t ≡ Some old → IsWritten old key row new → state_of (slice_set tables t new) ≡ put (state_of tables) ((t, key), row)
state_of-put tables t old new key row h at is = same_state _ _ (λ object.
    get-state_of (slice_set tables t new) object.0 object.1
    ∙ ap (λ o. row_in o object.1) (slice_get-slice_set tables t object.0 new h)
    ∙ at_object object.0 object.1 (nat_eq object.0 t) refl
    ∙ sym ((λ j. cond (tie object.0 t object.1 key j) row (get-state_of tables object.0 object.1 j)))
    ∙ sym (get-put (state_of tables) ((t, key), row) object))
  where
    at_object : (u : ℕ) (k : Key) (b : Bool) → nat_eq u t ≡ b → row_in (cond b (Some new) (slice_get tables u)) k ≡ cond (b && is_eq (key_cmp k key)) row (row_in (slice_get tables u) k)
    at_object u k true e =
        is k
        ∙ ap (λ o. cond (is_eq (key_cmp k key)) row (row_in o k)) (sym (ap (slice_get tables) ((unsigned_Decides u t).0 e) ∙ at))
    at_object u k false e = refl

-- the same rows in its place change nothing
state_of-unchanged : (tables : List (List (Key × Row))) (t : ℕ) (old new : List (Key × Row)) → t < length tables → slice_get tables t ≡ Some old → new ≡ old → state_of (slice_set tables t new) ≡ state_of tables
state_of-unchanged tables t old new h at is = same_state _ _ (λ object.
    get-state_of (slice_set tables t new) object.0 object.1
    ∙ ap (λ o. row_in o object.1) (slice_get-slice_set tables t object.0 new h)
    ∙ at_object object.0 object.1 (nat_eq object.0 t) refl
    ∙ sym (get-state_of tables object.0 object.1))
  where
    at_object : (u : ℕ) (k : Key) (b : Bool) → nat_eq u t ≡ b → row_in (cond b (Some new) (slice_get tables u)) k ≡ row_in (slice_get tables u) k
    at_object u k true e =
        ap (λ es. row_under es k) is ∙ ap (λ o. row_in o k) (sym (ap (slice_get tables) ((unsigned_Decides u t).0 e) ∙ at))
    at_object u k false e = refl

below-placed : (t : ℕ) (k : Key) (rows : List (Key × Row)) → AllByRecursion (λ y. key_cmp k y ≡ Less) (keys_of rows) → T (below_all object_cmp (t, k) (placed t rows))
below-placed t k [] h = tt
below-placed t k (e ∷ es) h =
    both _ _ (ap (λ o. is_lt (ordering_then o (key_cmp k e.0))) (tied_itself nat_cmp_total t) ∙ ap is_lt h.0) (below-placed t k es h.1)

-- keys in order are objects in order
pub sorted-placed : (t : ℕ) (rows : List (Key × Row)) → IsStrictlySortedBy key_cmp (keys_of rows) → T (is_sorted object_cmp (placed t rows))
sorted-placed t [] h = tt
sorted-placed t (e ∷ es) h =
    both_hold _ _ (below-placed t e.0 es (sorted_head key_cmp e.0 (keys_of es) h)) (sorted-placed t es (sorted_tail key_cmp e.0 (keys_of es) h))

-- tables without rows are the empty state
pub content-empty : (tables : List (List (Key × Row))) (n : ℕ) → length tables ≡ n → placed_from 0 tables ≡ [] → content_of tables ≡ record { tables = n; state = empty }
content-empty tables n e h j = record { tables = e j; state = state_of-empty tables h j }

-- the row that a look-up in a table finds
pub row-found : (tables : List (List (Key × Row))) (t : ℕ) (k : Key) (old : Content) (o : Option (List (Key × Row))) → content_of tables ≡ old → slice_get tables t ≡ o → row_in o k ≡ get old.state (t, k)
row-found tables t k old o view at =
    ap (λ x. row_in x k) (sym at) ∙ sym (get-state_of tables t k) ∙ ap (λ (c : Content). get c.state (t, k)) view

-- no row stands in a table that is not there
pub absent : (tables : List (List (Key × Row))) (old : Content) → content_of tables ≡ old → (object : Object) → old.tables ≤ object.0 → get old.state object ≡ None
absent tables old view object past =
    let beyond : length tables ≤ object.0 = subst (λ (c : Content). c.tables ≤ object.0) (sym view) past in
    sym (row-found tables object.0 object.1 old None view (slice_get_past tables object.0 beyond))

-- the tables after a write in one
pub content-put : (tables : List (List (Key × Row))) (t : ℕ) (rows new : List (Key × Row)) (key : Key) (row : Option Row) (old : Content) → content_of tables ≡ old → t < old.tables → rows ≡ slice_index_or tables t rows → IsWritten rows key row new → content_of (slice_set tables t new) ≡ record { tables = old.tables; state = put old.state ((t, key), row) }
content-put tables t rows new key row old view h at is =
    let inside : t < length tables = subst (λ (c : Content). t < c.tables) (sym view) h in
    let change = state_of-put tables t rows new key row inside (slice_get_read tables (length tables) t rows refl inside at) is in
    let after : Content → Content = λ c. record { tables = c.tables; state = put c.state ((t, key), row) } in
    let first : content_of (slice_set tables t new) ≡ after (content_of tables) = λ j. record { tables = length-set tables t new j; state = change j } in
    first ∙ ap after view

-- what holds where there is no error, of a result that is given otherwise
pub ok-as : {T E : Type 0} (P : Type 0) (r s : Result T E) → r ≡ s → OnOk s P → OnOk r P
ok-as P r s is = subst (λ q. OnOk q P) (sym is)

-- the tables after a write that failed
pub content-unchanged : (tables : List (List (Key × Row))) (t : ℕ) (rows new : List (Key × Row)) (old : Content) → content_of tables ≡ old → t < old.tables → rows ≡ slice_index_or tables t rows → new ≡ rows → content_of (slice_set tables t new) ≡ old
content-unchanged tables t rows new old view h at is =
    let inside : t < length tables = subst (λ (c : Content). t < c.tables) (sym view) h in
    let change = state_of-unchanged tables t rows new inside (slice_get_read tables (length tables) t rows refl inside at) is in
    let first : content_of (slice_set tables t new) ≡ content_of tables = λ j. record { tables = length-set tables t new j; state = change j } in
    first ∙ view

-- the answer that a table holds
pub answer-found : (tables : List (List (Key × Row))) (t : ℕ) (rows : List (Key × Row)) (a b : Option Key) (old : Content) → content_of tables ≡ old → slice_get tables t ≡ Some rows → IsStrictlySortedBy key_cmp (keys_of rows) → answer (Span t a b) old.state ≡ Rows (rows_within a b rows)
answer-found tables t rows a b old view at ordered =
    answer-rows old.state t a b rows ordered (λ k. sym (row-found tables t k old (Some rows) view at))

-- the answer where there is no such table
pub answer-missing : (tables : List (List (Key × Row))) (t : ℕ) (a b : Option Key) (old : Content) → content_of tables ≡ old → slice_get tables t ≡ None → answer (Span t a b) old.state ≡ Rows []
answer-missing tables t a b old view at = answer-nowhere old.state t a b (λ k. sym (row-found tables t k old None view at))

-- all rows lie within a range without ends
pub all-within : (rows : List (Key × Row)) → rows_within None None rows ≡ rows
all-within [] = refl
all-within (e ∷ es) = ap (λ fs. e ∷ fs) (all-within es)

module _ {Z : Type 0} where
  -- a write at a key, seen at plain keys
  pub row_at-put : (m n : BTreeMap (code_key.Key Z) Row) (key : code_key.Key Z) (row : Option Row) → IsPut m key row n → (k : Key) → row_at n.entries k ≡ cond (is_eq (key_cmp k (key_of key))) row (row_at m.entries k)
  row_at-put m n key row is k =
      let x = code_of {Z = Z} k in
      subst (λ l. row_at n.entries l ≡ cond (is_eq (key_cmp l (key_of key))) row (row_at m.entries l)) x.1
      (is x.0 ∙ ap (λ b. cond b row (row_at m.entries (key_of x.0))) ((eq_by_cmp_equiv key_cmp_total).symm (key_of key) (key_of x.0)))

  -- copies of rows are copies of the rows that an answer gives
  pub up_to_answers : (most : ℕ) (rows : List (Key × Row)) (given : Answer) (found : Option (Vec (code_key.Key Z × Row) Z)) → given ≡ Rows rows → AreAllUpTo most rows found → AnswersUpTo most given found
  up_to_answers most rows given None is more = subst (λ (n : ℕ). most < n) (sym (ap answer_size is)) more
  up_to_answers most rows given (Some copies) is all = (
    subst (λ (n : ℕ). n ≤ most) (sym (ap answer_size is)) all.0,
    ap Rows all.1 ∙ sym is,
  )

  -- a map without entries has none between two ends
  pub entries_within-empty : (a b : Option Key) (es : List (code_key.Key Z × Row)) → length es ≡ 0 → entries_within a b es ≡ []
  entries_within-empty a b [] e = refl
  entries_within-empty a b (f ∷ es) e = absurd (omega arith)

  pub entries_within-backward : (a b : Option Key) (es : List (code_key.Key Z × Row)) → is_backward a b ≡ true → entries_within a b es ≡ []
  entries_within-backward a b [] e = refl
  entries_within-backward a b (f ∷ es) e =
      (λ j. cond (backward-key a b (key_of f.0) e j) (f ∷ entries_within a b es) (entries_within-backward a b es e j))

  -- the part of a map between two bounds
  between-ends : (a b : Option (code_key.Key Z)) (es : List (code_key.Key Z × Row)) → entries_between (on key_of key_cmp) (lower_bound a) (upper_bound b) es ≡ entries_within (end_of a) (end_of b) es
  between-ends None None es = refl
  between-ends None (Some b) es = refl
  between-ends (Some a) None es = refl
  between-ends (Some a) (Some b) es = refl

  pub between-is : (a b : Option (code_key.Key Z)) (lo hi : Bound (code_key.Key Z)) (es : List (code_key.Key Z × Row)) → lo ≡ lower_bound a → hi ≡ upper_bound b → entries_between (on key_of key_cmp) lo hi es ≡ entries_within (end_of a) (end_of b) es
  between-is a b lo hi es p q = (λ j. entries_between (on key_of key_cmp) (p j) (q j) es) ∙ between-ends a b es
