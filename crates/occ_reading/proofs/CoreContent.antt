-- The content of a core, as a book wants it.
use Rattle.std.proofs.Common.{◌≡◌, ℕ, suc, cond, T, List, ◌∷◌, map, Option, None, Some, IfSome, Contains, Ordering, refl, sym, ap, subst, ◌∙◌, suc-le-suc, arith, []}
use Rattle.occ_reading.proofs.Common.{AllByRecursion, Answer, AtFits, Equal, FinMap, Found, FoundFits, Greater, IsAntisymmetric, IsRangeAnswer, IsTotalOrder, Key, KeyFits, Less, Object, Observation, One, PairFits, QuestionFits, ReadFits, ReadHasWords, ReadIs, RisesFrom, Row, RowFits, Rows, Schema, Span, State, StateIs, Version, Write, WriteFits, WriteHasWords, WriteIs, answer, below_all, entries, entries_sorted, find, get, get-entries, is_eq, is_lt, is_sorted, key_cmp, object_cmp, object_cmp-IsAntisymmetric, object_cmp_total, tied_itself}
use Rattle.std.specs.List.Sorted.{IsStrictlySortedBy}
use Rattle.occ_model.proofs.RangeAnswers.{answers_range}
use Rattle.occ_model.specs.Content as content
use Rattle.occ_reading.proofs.Rising.{first, second, less}

-- Entries of a map are what its keys give.

nothing : {X A : Type 0} {x : X} → None ≡ Some x → A
nothing e = cc

module _ {K X : Type 0} (R : K → K → Ordering) (total : IsTotalOrder R) (same : IsAntisymmetric R) (P : K × X → Type 0) where
  not_among : (k : K) (es : List (K × X)) → T (below_all R k es) → find R k es ≡ None
  not_among k [] below = refl
  not_among k (e ∷ es) below =
      ap (λ r. cond (is_eq r) (Some e.1) (find R k es)) (less (R k e.0) (first (is_lt (R k e.0)) _ below))
      ∙ not_among k es (second (is_lt (R k e.0)) (below_all R k es) below)

  -- what is found behind the first entry is found among all
  later : (e : K × X) (es : List (K × X)) → T (below_all R e.0 es) → (k : K) (x : X) → find R k es ≡ Some x → find R k (e ∷ es) ≡ Some x
  later e es below k x is = go (R k e.0) refl
    where
      go : (r : Ordering) → R k e.0 ≡ r → cond (is_eq (R k e.0)) (Some e.1) (find R k es) ≡ Some x
      go Less is_less = ap (λ r. cond (is_eq r) (Some e.1) (find R k es)) is_less ∙ is
      go Equal is_equal = nothing (sym (not_among e.0 es below) ∙ ap (λ q. find R q es) (sym (same k e.0 is_equal)) ∙ is)
      go Greater is_greater = ap (λ r. cond (is_eq r) (Some e.1) (find R k es)) is_greater ∙ is

  all_found : (es : List (K × X)) → T (is_sorted R es) → ((k : K) (x : X) → find R k es ≡ Some x → P (k, x)) → AllByRecursion P es
  all_found [] sorted each = tt
  all_found (e ∷ es) sorted each =
      let below : T (below_all R e.0 es) = first (below_all R e.0 es) (is_sorted R es) sorted in (
        each e.0 e.1 (ap (λ r. cond (is_eq r) (Some e.1) (find R e.0 es)) (tied_itself total e.0)),
        all_found es (second (below_all R e.0 es) (is_sorted R es) sorted) (λ k x is. each k x (later e es below k x is)),
      )

  pub all_entries : (m : FinMap R X) → ((k : K) (x : X) → get m k ≡ Some x → P (k, x)) → AllByRecursion P (entries m)
  all_entries m each = all_found (entries m) (entries_sorted m) (λ k x is. each k x (get-entries m k ∙ is))

-- Two facts on each item of a list.
pub all_both : {X : Type 0} (P Q S : X → Type 0) → ((x : X) → P x → Q x → S x) → (xs : List X) → AllByRecursion P xs → AllByRecursion Q xs → AllByRecursion S xs
all_both P Q S both [] ps qs = tt
all_both P Q S both (x ∷ xs) ps qs = (both x ps.0 qs.0, all_both P Q S both xs ps.1 qs.1)

all_contained : {X : Type 0} (P : X → Type 0) (xs : List X) → ((x : X) → Contains xs x → P x) → AllByRecursion P xs
all_contained P [] each = tt
all_contained P (x ∷ xs) each = (each x (0, omega arith, refl), all_contained P xs (λ y c. each y (suc c.0, suc-le-suc c.1, c.2)))

-- Keys that strictly rise.
rises_behind : (last : Key) (pairs : List (Key × Row)) → AllByRecursion (λ y. key_cmp last y ≡ Less) (map (λ pair. pair.0) pairs) → IsStrictlySortedBy key_cmp (map (λ pair. pair.0) pairs) → RisesFrom (Some last) pairs
unfolding IsStrictlySortedBy
rises_behind last [] above sorted = tt
rises_behind last (pair ∷ pairs) above sorted = (ap is_lt above.0, rises_behind pair.0 pairs sorted.0 sorted.1)

pub rises : (pairs : List (Key × Row)) → IsStrictlySortedBy key_cmp (map (λ pair. pair.0) pairs) → RisesFrom None pairs
unfolding IsStrictlySortedBy
rises [] sorted = tt
rises (pair ∷ pairs) sorted = rises_behind pair.0 pairs sorted.0 sorted.1

-- What is within a schema and has words fits a book.

module _ (version : Version) (schema : Schema) where
  found_fits : (table : ℕ) (row : Option Row) → IfSome row (content.RowFits schema table) → IfSome row RowFits → FoundFits schema table row
  found_fits table None fits words = tt
  found_fits table (Some row) fits words = record { cells = words; checked = fits }

  pub write_fits : (write : Write) → WriteIs (QuestionFits schema) (content.RowFits schema) write → WriteHasWords version write → WriteFits version schema write
  write_fits (object, row) fits words = (record { key = words.0; checked = fits.key }, found_fits object.0 row fits.row words.1)

  pub entry_fits : (entry : Object × Row) → QuestionFits schema (One entry.0.0 entry.0.1) × content.RowFits schema entry.0.0 entry.1 → KeyFits version entry.0.1 × RowFits entry.1 → AtFits version schema entry
  entry_fits entry fits words = (record { key = words.0; checked = fits.0 }, record { cells = words.1; checked = fits.1 })

  one_found : (state : State) (table : ℕ) (key : Key) → answer (One table key) state ≡ Found (get state (table, key))
  unfolding answer
  one_found state table key = refl

  abbrev row_of : Answer → Option Row
  row_of (Found row) = row
  row_of (Rows rows) = None

  abbrev rows_of : Answer → List (Key × Row)
  rows_of (Found row) = []
  rows_of (Rows rows) = rows

  in_state : (state : State) (table : ℕ) (key : Key) (row : Option Row) → StateIs (QuestionFits schema) (content.RowFits schema) state → row ≡ get state (table, key) → IfSome row (content.RowFits schema table)
  in_state state table key None fits is = tt
  in_state state table key (Some row) fits is = (fits (table, key) row (sym is)).1

  pair_fits : (table : ℕ) (pair : Key × Row) → QuestionFits schema (One table pair.0) × content.RowFits schema table pair.1 → KeyFits version pair.0 × RowFits pair.1 → PairFits version schema table pair
  pair_fits table pair fits words = (record { key = words.0; checked = fits.0 }, record { cells = words.1; checked = fits.1 })

  pub read_fits : (seen : Observation) → ReadIs (QuestionFits schema) (content.RowFits schema) seen → ReadHasWords version seen → ReadFits version schema seen
  read_fits (One table key, Found row) fits words = (
    record { key = words.0; checked = fits.question },
    found_fits table row (in_state fits.state table key row fits.fits (ap row_of (fits.answered ∙ one_found fits.state table key))) words.1,
  )
  read_fits (One table key, Rows rows) fits words = let e = fits.answered ∙ one_found fits.state table key in absurd (mixed e)
    where
      mixed : {row : Option Row} → Rows rows ≡ Found row → ⊥
      mixed e = cc
  read_fits (Span table lower upper, Found row) fits words =
      let a = answers_range fits.state table lower upper in
      let e = fits.answered ∙ a.1.answered in absurd (mixed e)
    where
      mixed : {rows : List (Key × Row)} → Found row ≡ Rows rows → ⊥
      mixed e = cc
  read_fits (Span table lower upper, Rows rows) fits words =
      let a = answers_range fits.state table lower upper in
      let same : a.0 ≡ rows = sym (ap rows_of (fits.answered ∙ a.1.answered)) in
      let is : IsRangeAnswer fits.state table lower upper rows = subst (IsRangeAnswer fits.state table lower upper) same a.1 in (
        record { ends = words.0; checked = fits.question },
        all_both (λ pair. QuestionFits schema (One table pair.0) × content.RowFits schema table pair.1) (λ pair. KeyFits version pair.0 × RowFits pair.1) (PairFits version schema table) (pair_fits table) rows
            (all_contained (λ pair. QuestionFits schema (One table pair.0) × content.RowFits schema table pair.1) rows (λ pair c. fits.fits (table, pair.0) pair.1 ((is.exactly pair.0 pair.1).0 c).1))
            words.1,
        rises rows is.in_order,
        words.2,
      )

  pub table_fits : (state : State) → StateIs (QuestionFits schema) (content.RowFits schema) state → AllByRecursion (λ (entry : Object × Row). KeyFits version entry.0.1 × RowFits entry.1) (entries state) → AllByRecursion (AtFits version schema) (entries state)
  table_fits state fits words =
      all_both (λ (entry : Object × Row). QuestionFits schema (One entry.0.0 entry.0.1) × content.RowFits schema entry.0.0 entry.1) (λ (entry : Object × Row). KeyFits version entry.0.1 × RowFits entry.1) (AtFits version schema) entry_fits (entries state)
      (all_entries object_cmp object_cmp_total object_cmp-IsAntisymmetric (λ (entry : Object × Row). QuestionFits schema (One entry.0.0 entry.0.1) × content.RowFits schema entry.0.0 entry.1) state fits) words
