-- What the own writes of a range make of any state, and of the rows that a state answers.
use Rattle.std.proofs.Common.{◌≡◌, ◌&&◌, Bool, true, false, cond, T, List, [], ◌∷◌, Option, None, Some, is_some, refl, sym, ap, subst, ◌∙◌}
use Rattle.std.specs.Prelude.{map}
use Rattle.std.specs.declared.cmp.Ordering.{Ordering}
use Rattle.std.specs.declared.cmp.Ordering.TheVariants.{Less, Equal, Greater}
use Rattle.std.specs.FinMap.{get, entries, retain_keys, entries_sorted, get-entries, get-retain_keys}
use Rattle.std.specs.FinMap.Entries.{find, is_sorted, below_all}
use Rattle.std.specs.List.{AllByRecursion}
use Rattle.std.specs.List.Sorted.{IsStrictlySortedBy}
use Rattle.std.specs.Map.{keys_of, lookup}
use Rattle.std.specs.Ordering.{on, eq_by_cmp, is_eq, is_lt, nat_cmp, ordering_then}
use Rattle.std.specs.Cmp.{Equal-is, on_total, tied_itself, nat_cmp_total}
use Rattle.occ_types.specs.declared.keys.Key as code_key
use Rattle.occ_types.specs.Key.{Key, key_cmp, key_cmp_total}
use Rattle.occ_types.specs.Object.{Object, object_cmp, object_cmp_total, object_cmp-IsAntisymmetric}
use Rattle.occ_types.specs.Question.{Question, One, Span, asks}
use Rattle.occ_types.specs.Row.{Row}
use Rattle.occ_types.specs.Same.{key_same_equiv}
use Rattle.occ_types.specs.PlainData.{key_of, table_asked}
use Rattle.occ_model.specs.State.{State, Write, Answer, Found, Rows, answer, apply}
use Rattle.occ_model.specs.Overlay as model
use Rattle.occ_sets.specs.Merging.{Led, LedFurther, merged, row_after}
use Rattle.occ_sets.specs.Overlays.{Agrees, rows_over}
use Rattle.occ_sets.specs.PlainSets.{rows_of}
use Rattle.occ_sets.proofs.Agreement.{asks_table, unasked, asked, tied_by_key, follows-asked, agrees-empty, agrees-row, answer_of_entries}
use Rattle.occ_sets.proofs.Merging.{found_merged, sorted_merged}

later : (b : Bool) (row : Option Row) (l : Option (Option Row)) (given : Option Row) → cond b row (row_after l given) ≡ row_after (cond b (Some row) l) given
later true row l given = refl
later false row l given = refl

first_true : (a b : Bool) → T (a && b) → T a
first_true true b p = tt
first_true false b p = p

second_true : (a b : Bool) → T (a && b) → T b
second_true true b p = p
second_true false b p = absurd p

is_less : (r : Ordering) → T (is_lt r) → r ≡ Less
is_less Less p = refl
is_less Equal p = absurd p
is_less Greater p = absurd p

-- of two objects of one table, the keys stand as the objects do
below_by_key : (table : _) (a b : Object) → a.0 ≡ table → b.0 ≡ table → T (is_lt (object_cmp a b)) → key_cmp a.1 b.1 ≡ Less
below_by_key table a b e f less =
    let same : nat_cmp a.0 b.0 ≡ Equal = ap (λ n. nat_cmp n b.0) e ∙ ap (nat_cmp table) f ∙ tied_itself nat_cmp_total table in
    is_less (key_cmp a.1 b.1) (subst (λ r. T (is_lt (ordering_then r (key_cmp a.1 b.1)))) same less)

is_given : (b : Bool) (row : Option Row) → is_some (cond b row None) ≡ true → b ≡ true
is_given true row e = refl
is_given false row e = e

shown_later : (b : Bool) (row : Row) (r : Option Row) → is_some r ≡ true → is_some (cond b (Some row) r) ≡ true
shown_later true row r e = refl
shown_later false row r e = e

-- all objects of some entries are asked for
AreAsked : Question → List (Object × Row) → Type 0
AreAsked question es = AllByRecursion (λ o. asks question o ≡ true) (keys_of es)

are_asked : (question : Question) (es : List (Object × Row)) → ((o : Object) → is_some (find object_cmp o es) ≡ true → asks question o ≡ true) → AreAsked question es
unfolding AreAsked
are_asked question [] h = tt
are_asked question (e ∷ es) h =
    let itself : eq_by_cmp object_cmp e.0 e.0 ≡ true = (Equal-is (object_cmp e.0 e.0)).1 (tied_itself object_cmp_total e.0) in (
      h e.0 (ap (λ b. is_some (cond b (Some e.1) (find object_cmp e.0 es))) itself),
      are_asked question es (λ o there. h o (shown_later (eq_by_cmp object_cmp o e.0) e.1 (find object_cmp o es) there)),
    )

-- what is answered is asked for
kept_asked : (question : Question) (state : State) → AreAsked question (entries (retain_keys state (asks question)))
kept_asked question state =
    let kept = retain_keys state (asks question) in
    are_asked question (entries kept) (λ o there. is_given (asks question o) (get state o)
    (sym (ap is_some (sym (get-entries kept o) ∙ get-retain_keys state (asks question) o (λ x e. ap (asks question) (sym (object_cmp-IsAntisymmetric o x e))))) ∙ there))

-- the keys and rows of some entries
plain_rows : List (Object × Row) → List (Key × Row)
plain_rows = map (λ e. (e.0.1, e.1))

plain_asked : (question : Question) (es : List (Object × Row)) → AreAsked question es → AllByRecursion (λ k. asks question (table_asked question, k) ≡ true) (keys_of (plain_rows es))
unfolding AreAsked plain_rows
plain_asked question [] h = tt
plain_asked question (e ∷ es) h = (ap (λ t. asks question (t, e.0.1)) (sym (asks_table question e.0 h.0)) ∙ h.0, plain_asked question es h.1)

plain_below : (question : Question) (o : Object) (es : List (Object × Row)) → asks question o ≡ true → AreAsked question es → T (below_all object_cmp o es) → AllByRecursion (λ k. key_cmp o.1 k ≡ Less) (keys_of (plain_rows es))
unfolding AreAsked plain_rows
plain_below question o [] here h below = tt
plain_below question o (e ∷ es) here h below = (
  below_by_key (table_asked question) o e.0 (asks_table question o here) (asks_table question e.0 h.0) (first_true _ _ below),
  plain_below question o es here h.1 (second_true _ _ below),
)

plain_sorted : (question : Question) (es : List (Object × Row)) → AreAsked question es → T (is_sorted object_cmp es) → IsStrictlySortedBy key_cmp (keys_of (plain_rows es))
unfolding AreAsked plain_rows IsStrictlySortedBy
plain_sorted question [] h sorted = tt
plain_sorted question (e ∷ es) h sorted = (plain_below question e.0 es h.0 h.1 (first_true _ _ sorted), plain_sorted question es h.1 (second_true _ _ sorted))

-- the rows of an answer
rows_in : Answer → List (Key × Row)
rows_in (Found row) = []
rows_in (Rows rows) = rows

rows_answered : (question : Question) (state : State) (rows : List (Key × Row)) → answer question state ≡ Rows rows → plain_rows (entries (retain_keys state (asks question))) ≡ rows
unfolding answer rows_in plain_rows
rows_answered (One table key) state rows e = cc
rows_answered (Span table lower upper) state rows e = ap rows_in e

module _ {Z : Type 0} where
  code_below : (k : code_key.Key Z) (es : List (code_key.Key Z × Row)) → AllByRecursion (λ l. key_cmp (key_of k) l ≡ Less) (keys_of (rows_of es)) → AllByRecursion (λ l. key_cmp (key_of k) (key_of l) ≡ Less) (keys_of es)
  code_below k [] h = tt
  code_below k (e ∷ es) h = (h.0, code_below k es h.1)

  code_sorted : (es : List (code_key.Key Z × Row)) → IsStrictlySortedBy key_cmp (keys_of (rows_of es)) → IsStrictlySortedBy (on key_of key_cmp) (keys_of es)
  unfolding IsStrictlySortedBy
  code_sorted [] h = tt
  code_sorted (e ∷ es) h = (code_below e.0 es h.0, code_sorted es h.1)

  code_asked : (question : Question) (es : List (code_key.Key Z × Row)) → AllByRecursion (λ k. asks question (table_asked question, k) ≡ true) (keys_of (rows_of es)) → AllByRecursion (λ k. asks question (table_asked question, key_of k) ≡ true) (keys_of es)
  code_asked question [] h = tt
  code_asked question (e ∷ es) h = (h.0, code_asked question es h.1)

  -- rows that are asked for agree with the state that they make
  agrees_rows : (question : Question) (es : List (code_key.Key Z × Row)) → AllByRecursion (λ k. asks question (table_asked question, key_of k) ≡ true) (keys_of es) → Agrees question es (model.rows_of (table_asked question) (rows_of es))
  agrees_rows question [] h = agrees-empty question [] refl
  agrees_rows question (e ∷ es) h =
      let change = λ (k : code_key.Key Z). ap (λ b. cond b (Some e.1) (lookup (λ x. is_eq (key_cmp (key_of k) (key_of x))) es)) (key_same_equiv.symm (key_of k) (key_of e.0)) in
      let follows = follows-asked question es (e ∷ es) (table_asked question) e.0 (Some e.1) h.0 change in
      agrees-row question (e ∷ es) e.0 e.1 es (follows (model.rows_of (table_asked question) (rows_of es)) (agrees_rows question es h.1))

  -- the writes merged with the rows that a state answers are the rows with the writes over them
  pub merged_over : (question : Question) (state : State) (writes : List Write) (rows : List (code_key.Key Z × Row)) (own : List (code_key.Key Z × Option Row))
      → answer question state ≡ Rows (rows_of rows) → IsStrictlySortedBy (on key_of key_cmp) (keys_of own) → ((from : State) → Led question own from (apply from writes))
      → rows_of (merged (on key_of key_cmp) rows own) ≡ rows_over question writes (rows_of rows)
  merged_over question state writes rows own answers sorted leads =
      let order = on_total key_of key_cmp_total in
      let kept = retain_keys state (asks question) in
      let same = rows_answered question state (rows_of rows) answers in
      let rows_sorted = code_sorted rows (subst (λ rs. IsStrictlySortedBy key_cmp (keys_of rs)) same (plain_sorted question (entries kept) (kept_asked question state) (entries_sorted kept))) in
      let rows_asked = code_asked question rows (subst (λ rs. AllByRecursion (λ k. asks question (table_asked question, k) ≡ true) (keys_of rs)) same (plain_asked question (entries kept) (kept_asked question state))) in
      let given = model.rows_of (table_asked question) (rows_of rows) in
      let agrees : Agrees question (merged (on key_of key_cmp) rows own) (apply given writes) = record {
        at = λ k.
            found_merged order k rows rows_sorted own sorted
            ∙ ap (row_after (lookup (λ x. is_eq (key_cmp (key_of k) (key_of x))) own)) ((agrees_rows question rows rows_asked).at k)
            ∙ sym ((leads given).at k);
      } in
      sym (answer_of_entries question (merged (on key_of key_cmp) rows own) (apply given writes) agrees (sorted_merged order rows rows_sorted own sorted))

  -- no writes lead nowhere
  pub led-none : (question : Question) (own : List (code_key.Key Z × Option Row)) (state : State) → own ≡ [] → Led question own state state
  led-none question own state none = record {
    at = λ k. sym (ap (λ es. row_after (lookup (λ x. is_eq (key_cmp (key_of k) (key_of x))) es) (cond (asks question (table_asked question, key_of k)) (get state (table_asked question, key_of k)) None)) none);
  }

  -- a write that is not asked for leads no further
  pub led-unasked : (question : Question) (own : List (code_key.Key Z × Option Row)) (o : Object) (row : Option Row) → asks question o ≡ false → LedFurther question own own (o, row)
  led-unasked question own o row out_of_it = λ from to h. record {
    at = λ k. unasked question to o row (table_asked question, key_of k) out_of_it ∙ h.at k;
  }

  -- and one that is asked for is the last of its key
  pub led-asked : (question : Question) (old new : List (code_key.Key Z × Option Row)) (table : _) (key : code_key.Key Z) (row : Option Row) → asks question (table, key_of key) ≡ true
      → ((k : code_key.Key Z) → lookup (λ x. is_eq (key_cmp (key_of k) (key_of x))) new ≡ cond (is_eq (key_cmp (key_of key) (key_of k))) (Some row) (lookup (λ x. is_eq (key_cmp (key_of k) (key_of x))) old))
      → LedFurther question old new ((table, key_of key), row)
  led-asked question old new table key row within changes = λ from to h. record {
    at = λ k.
        let p : Object = (table_asked question, key_of k) in
        let given = cond (asks question p) (get from p) None in
        let l = lookup (λ x. is_eq (key_cmp (key_of k) (key_of x))) old in
        asked question to (table, key_of key) row p within
        ∙ ap (λ b. cond b row (cond (asks question p) (get to p) None)) (tied_by_key (table_asked question) table (key_of k) (key_of key) (asks_table question (table, key_of key) within))
        ∙ ap (cond (is_eq (key_cmp (key_of key) (key_of k))) row) (h.at k)
        ∙ later (is_eq (key_cmp (key_of key) (key_of k))) row l given
        ∙ ap (λ r. row_after r given) (sym (changes k));
  }

  -- a write that is found at a place is the write there
  pub led_found : (question : Question) (old new : List (code_key.Key Z × Option Row)) (here there : Write) (s : Option Write) → Some here ≡ s → LedFurther question old new here → s ≡ Some there → LedFurther question old new there
  led_found question old new here there s e leads f =
      let both : Some here ≡ Some there = e ∙ f in
      let same : here ≡ there = cc in
      subst (LedFurther question old new) same leads

  -- rows that no write goes over are as they are
  pub merged_none : (rows : List (code_key.Key Z × Row)) → merged (on key_of key_cmp) rows [] ≡ rows
  merged_none [] = refl
  merged_none (row ∷ rows) = ap (λ rest. row ∷ rest) (merged_none rows)
