-- The overlay of a range: entries that agree with a state, and the answer that they give.
use Rattle.std.proofs.Common.{◌≡◌, ◌++◌, append_assoc, ℕ, suc, zero, add-one, drop-cons, ◌+◌, ◌<◌, Bool, true, false, cond, ◌&&◌, T, nat_eq, List, [], ◌∷◌, Option, None, Some, length, slice_get, refl, sym, ap, subst, ◌∙◌, arith, true≢false}
use Rattle.std.specs.Prelude.{map, drop}
use Rattle.std.proofs.lemmas.Option.{slice_get_within, get_or_from_slice_get}
use Rattle.std.specs.declared.cmp.Ordering.TheVariants.{Less}
use Rattle.std.specs.FinMap.{empty, get-empty, get, entries, retain_keys, entries_sorted, get-entries, get-retain_keys, get-insert, get-remove}
use Rattle.std.specs.FinMap.Entries.{find, is_sorted, below_all, same_entries}
use Rattle.std.specs.List.{AllByRecursion}
use Rattle.std.specs.List.Sorted.{IsStrictlySortedBy}
use Rattle.std.specs.Map.{keys_of, lookup}
use Rattle.std.specs.Ordering.{on, eq_by_cmp, is_eq, is_lt, ordering_then}
use Rattle.std.specs.Cmp.{Equal-is, unsigned_Decides, tied_itself, nat_cmp_total}
use Rattle.occ_types.specs.declared.keys.Key as code_key
use Rattle.occ_types.specs.declared.keys.Key.TheVariants as keys
use Rattle.occ_types.specs.Key.{Key, Num, Text, Pair, key_cmp}
use Rattle.occ_types.specs.Object.{Object, object_cmp, object_cmp_total, object_cmp-IsAntisymmetric}
use Rattle.occ_types.specs.Question.{Question, One, Span, asks}
use Rattle.occ_types.specs.Row.{Row}
use Rattle.occ_types.specs.Same.{key_same, key_same_equiv}
use Rattle.occ_types.specs.PlainData.{key_of, table_asked}
use Rattle.occ_types.proofs.Asked.{object_tied}
use Rattle.occ_model.specs.State.{State, Write, Rows, answer, put}
use Rattle.occ_model.specs.Overlay as model
use Rattle.occ_model.specs.Overlay.{overlay}
use Rattle.occ_sets.specs.Overlays.{Agrees, FollowsWrite, rows_over}
use Rattle.occ_sets.specs.PlainSets.{rows_of}

same_object : (a b : Object) → eq_by_cmp object_cmp a b ≡ true → a ≡ b
same_object a b e = object_cmp-IsAntisymmetric a b ((Equal-is (object_cmp a b)).0 e)

first_true : (a b : Bool) → (a && b) ≡ true → a ≡ true
first_true true b e = refl
first_true false b e = e

-- what is asked for is of the table that is asked
pub asks_table : (question : Question) (o : Object) → asks question o ≡ true → o.0 ≡ table_asked question
unfolding asks
asks_table (One table key) o e = sym (ap (λ p. p.0) (same_object (table, key) o e))
asks_table (Span table lower upper) o e = (unsigned_Decides o.0 table).0 (first_true _ _ e)

-- what a state has after a write
get-put : (state : State) (o : Object) (row : Option Row) (p : Object) → get (put state (o, row)) p ≡ cond (eq_by_cmp object_cmp p o) row (get state p)
unfolding put
get-put state o None p = get-remove object_cmp_total state o p
get-put state o (Some row) p = get-insert object_cmp_total state o row p

module _ (question : Question) (state : State) (o : Object) (row : Option Row) (p : Object) where
  -- a write that is not asked for changes no answer
  pub unasked : asks question o ≡ false → cond (asks question p) (get (put state (o, row)) p) None ≡ cond (asks question p) (get state p) None
  unasked out_of_it = by (eq_by_cmp object_cmp p o) refl
    where
      by : (b : Bool) → eq_by_cmp object_cmp p o ≡ b → cond (asks question p) (get (put state (o, row)) p) None ≡ cond (asks question p) (get state p) None
      by true e =
          let out : asks question p ≡ false = ap (asks question) (same_object p o e) ∙ out_of_it in
          ap (λ b. cond b (get (put state (o, row)) p) None) out ∙ sym (ap (λ b. cond b (get state p) None) out)
      by false e = ap (λ r. cond (asks question p) r None) (get-put state o row p ∙ ap (λ b. cond b row (get state p)) e)

  -- and one that is asked for is the answer at its object
  pub asked : asks question o ≡ true → cond (asks question p) (get (put state (o, row)) p) None ≡ cond (eq_by_cmp object_cmp p o) row (cond (asks question p) (get state p) None)
  asked within = by (eq_by_cmp object_cmp p o) refl
    where
      by : (b : Bool) → eq_by_cmp object_cmp p o ≡ b → cond (asks question p) (get (put state (o, row)) p) None ≡ cond (eq_by_cmp object_cmp p o) row (cond (asks question p) (get state p) None)
      by true e =
          let in_range : asks question p ≡ true = ap (asks question) (same_object p o e) ∙ within in
          ap (λ b. cond b (get (put state (o, row)) p) None) in_range
          ∙ get-put state o row p
          ∙ ap (λ b. cond b row (get state p)) e
          ∙ sym (ap (λ b. cond b row (cond (asks question p) (get state p) None)) e)
      by false e =
          ap (λ r. cond (asks question p) r None) (get-put state o row p ∙ ap (λ b. cond b row (get state p)) e)
          ∙ sym (ap (λ b. cond b row (cond (asks question p) (get state p) None)) e)

-- the overlay of a range
pub overlay-Span : (table : ℕ) (lower upper : Option Key) (writes : List Write) (rows : List (Key × Row)) → Rows (rows_over (Span table lower upper) writes rows) ≡ overlay (Span table lower upper) writes (Rows rows)
unfolding answer
overlay-Span table lower upper writes rows = refl

-- objects of one table tie where their keys do
pub tied_by_key : (t u : ℕ) (k l : Key) → u ≡ t → eq_by_cmp object_cmp (t, k) (u, l) ≡ is_eq (key_cmp l k)
tied_by_key t u k l e = object_tied t u k l ∙ ap (λ b. b && key_same k l) ((unsigned_Decides t u).1 (sym e)) ∙ key_same_equiv.symm k l

by_table : (b c : Bool) (x r s : Option Row) → r ≡ cond b s None → cond (b && c) x r ≡ cond b (cond c x s) None
by_table true c x r s e = ap (cond c x) e
by_table false c x r s e = e

no_row : (b : Bool) (r : Option Row) → r ≡ None → None ≡ cond b r None
no_row true r e = sym e
no_row false r e = refl

both : (a b : Bool) → T a → T b → T (a && b)
both true b p q = q
both false b p q = p

less : (table : ℕ) (a b : Key) → key_cmp a b ≡ Less → T (is_lt (object_cmp (table, a) (table, b)))
less table a b e =
    let same : object_cmp (table, a) (table, b) ≡ Less = ap (λ r. ordering_then r (key_cmp a b)) (tied_itself nat_cmp_total table) ∙ e in
    subst (λ r. T (is_lt r)) (sym same) tt

-- the code's key
module _ (Z : Type 0) where
  pub key_back : Key → code_key.Key Z
  key_back (Num n) = keys.Num n
  key_back (Text t) = keys.Text t
  key_back (Pair a b) = keys.Pair (a, b)

  pub key_of-key_back : (k : Key) → key_of {Z = Z} (key_back k) ≡ k
  unfolding key_back
  key_of-key_back (Num n) = refl
  key_of-key_back (Text t) = refl
  key_of-key_back (Pair a b) = refl

module _ {Z : Type 0} where
  -- entries that stay agree after a write that is not asked for
  pub follows-unasked : (question : Question) (es : List (code_key.Key Z × Row)) (o : Object) (row : Option Row) → asks question o ≡ false → FollowsWrite question es es (o, row)
  follows-unasked question es o row out_of_it = λ state h. record {
    at = λ k. h.at k ∙ sym (unasked question state o row (table_asked question, key_of k) out_of_it);
  }

  -- and entries that are changed at its key, after one that is asked for
  pub follows-asked : (question : Question) (old new : List (code_key.Key Z × Row)) (table : ℕ) (key : code_key.Key Z) (row : Option Row) → asks question (table, key_of key) ≡ true → ((k : code_key.Key Z) → lookup (λ x. is_eq (key_cmp (key_of k) (key_of x))) new ≡ cond (is_eq (key_cmp (key_of key) (key_of k))) row (lookup (λ x. is_eq (key_cmp (key_of k) (key_of x))) old)) → FollowsWrite question old new ((table, key_of key), row)
  follows-asked question old new table key row within changes = λ state h. record {
    at = λ k.
        let p : Object = (table_asked question, key_of k) in
        changes k
        ∙ ap (cond (is_eq (key_cmp (key_of key) (key_of k))) row) (h.at k)
        ∙ ap (λ b. cond b row (cond (asks question p) (get state p) None)) (sym (tied_by_key (table_asked question) table (key_of k) (key_of key) (asks_table question (table, key_of key) within)))
        ∙ sym (asked question state (table, key_of key) row p within);
  }

  -- no entries agree with the empty state
  pub agrees-empty : (question : Question) (es : List (code_key.Key Z × Row)) → es ≡ [] → Agrees question es (empty {X = Row} {R = object_cmp})
  agrees-empty question es none = record {
    at = λ k. ap (lookup (λ x. is_eq (key_cmp (key_of k) (key_of x)))) none ∙ no_row (asks question (table_asked question, key_of k)) _ (get-empty object_cmp (table_asked question, key_of k));
  }

  -- a write that is found at a place is the write there
  pub follows_found : (question : Question) (old new : List (code_key.Key Z × Row)) (here there : Write) (s : Option Write) → Some here ≡ s → FollowsWrite question old new here → s ≡ Some there → FollowsWrite question old new there
  follows_found question old new here there s e follows f =
      let both : Some here ≡ Some there = e ∙ f in
      let same : here ≡ there = cc in
      subst (FollowsWrite question old new) same follows

  -- one more row before those that are laid
  pub agrees-row : (question : Question) (new : List (code_key.Key Z × Row)) (key : code_key.Key Z) (row : Row) (done : List (code_key.Key Z × Row)) → Agrees question new (put (model.rows_of (table_asked question) (rows_of done)) ((table_asked question, key_of key), Some row)) → Agrees question new (model.rows_of (table_asked question) (rows_of ((key, row) ∷ done)))
  unfolding put
  agrees-row question new key row done h = h

  -- the entries as those of a state
  at_table : ℕ → List (code_key.Key Z × Row) → List (Object × Row)
  at_table table = map (λ e. ((table, key_of e.0), e.1))

  rows-at_table : (table : ℕ) (es : List (code_key.Key Z × Row)) → map (λ e. (e.0.1, e.1)) (at_table table es) ≡ rows_of es
  unfolding at_table
  rows-at_table table [] = refl
  rows-at_table table (e ∷ es) = ap (λ rest. (key_of e.0, e.1) ∷ rest) (rows-at_table table es)

  find-at_table : (u table : ℕ) (k : Key) (es : List (code_key.Key Z × Row)) → find object_cmp (u, k) (at_table table es) ≡ cond (nat_eq u table) (lookup (λ x. is_eq (key_cmp k (key_of x))) es) None
  unfolding at_table
  find-at_table u table k [] = no_row (nat_eq u table) None refl
  find-at_table u table k (e ∷ es) =
      ap (λ b. cond b (Some e.1) (find object_cmp (u, k) (at_table table es))) (object_tied u table k (key_of e.0))
      ∙ by_table (nat_eq u table) (key_same k (key_of e.0)) (Some e.1) _ _ (find-at_table u table k es)

  below-at_table : (table : ℕ) (k : code_key.Key Z) (es : List (code_key.Key Z × Row)) → AllByRecursion (λ y. key_cmp (key_of k) (key_of y) ≡ Less) (keys_of es) → T (below_all object_cmp (table, key_of k) (at_table table es))
  unfolding at_table
  below-at_table table k [] h = tt
  below-at_table table k (e ∷ es) h = both _ _ (less table (key_of k) (key_of e.0) h.0) (below-at_table table k es h.1)

  sorted-at_table : (table : ℕ) (es : List (code_key.Key Z × Row)) → IsStrictlySortedBy (on key_of key_cmp) (keys_of es) → T (is_sorted object_cmp (at_table table es))
  unfolding at_table IsStrictlySortedBy
  sorted-at_table table [] h = tt
  sorted-at_table table (e ∷ es) h = both _ _ (below-at_table table e.0 es h.0) (sorted-at_table table es h.1)

  -- what a state answers is what the entries find
  found : (question : Question) (es : List (code_key.Key Z × Row)) (state : State) (u : ℕ) (k : Key) → Agrees question es state → cond (asks question (u, k)) (get state (u, k)) None ≡ cond (nat_eq u (table_asked question)) (lookup (λ x. is_eq (key_cmp k (key_of x))) es) None
  found question es state u k h = by (nat_eq u (table_asked question)) refl
    where
      here : lookup (λ x. is_eq (key_cmp k (key_of x))) es ≡ cond (asks question (table_asked question, k)) (get state (table_asked question, k)) None
      here = subst (λ l. lookup (λ x. is_eq (key_cmp l (key_of x))) es ≡ cond (asks question (table_asked question, l)) (get state (table_asked question, l)) None) (key_of-key_back Z k) (h.at (key_back Z k))

      outside : (b : Bool) → asks question (u, k) ≡ b → nat_eq u (table_asked question) ≡ false → cond (asks question (u, k)) (get state (u, k)) None ≡ None
      outside true e apart = absurd (true≢false (sym ((unsigned_Decides u (table_asked question)).1 (asks_table question (u, k) e)) ∙ apart))
      outside false e apart = ap (λ b. cond b (get state (u, k)) None) e

      by : (b : Bool) → nat_eq u (table_asked question) ≡ b → cond (asks question (u, k)) (get state (u, k)) None ≡ cond (nat_eq u (table_asked question)) (lookup (λ x. is_eq (key_cmp k (key_of x))) es) None
      by true e =
          let same : u ≡ table_asked question = (unsigned_Decides u (table_asked question)).0 e in
          ap (λ t. cond (asks question (t, k)) (get state (t, k)) None) same
          ∙ sym here
          ∙ sym (ap (λ b. cond b (lookup (λ x. is_eq (key_cmp k (key_of x))) es) None) e)
      by false e = outside (asks question (u, k)) refl e ∙ sym (ap (λ b. cond b (lookup (λ x. is_eq (key_cmp k (key_of x))) es) None) e)

  -- entries in order that agree with a state are what it answers
  pub answer_of_entries : (question : Question) (es : List (code_key.Key Z × Row)) (state : State) → Agrees question es state → IsStrictlySortedBy (on key_of key_cmp) (keys_of es) → map (λ e. (e.0.1, e.1)) (entries (retain_keys state (asks question))) ≡ rows_of es
  answer_of_entries question es state h sorted =
      let table = table_asked question in
      let kept = retain_keys state (asks question) in
      let alike = λ (o x : Object) (e : object_cmp o x ≡ _). ap (asks question) (sym (object_cmp-IsAntisymmetric o x e)) in
      let same : entries kept ≡ at_table table es = same_entries object_cmp object_cmp_total object_cmp-IsAntisymmetric (entries kept) (at_table table es) (entries_sorted kept) (sorted-at_table table es sorted) (λ o.
      sym (get-entries kept o) ∙ get-retain_keys state (asks question) o (alike o)
      ∙ found question es state o.0 o.1 h ∙ sym (find-at_table o.0 table o.1 es)) in
      ap (map (λ e. (e.0.1, e.1))) same ∙ rows-at_table table es

-- what is left from a place on begins with the element there
pub drop-slice_get : {X : Type 0} (xs : List X) (i : ℕ) (x : X) → slice_get xs i ≡ Some x → drop i xs ≡ x ∷ drop (i + 1) xs
drop-slice_get xs i x e = rw add-one (drop-cons xs i x (slice_get_within xs i x e) ∙ ap (λ y. y ∷ drop (suc i) xs) (get_or_from_slice_get xs i x x e))

-- there is an element at each place
pub at_place : {X : Type 0} (xs : List X) (i : ℕ) → i < length xs → (x : X) × (slice_get xs i ≡ Some x)
at_place [] i h = absurd (omega arith)
at_place (y ∷ ys) zero h = (y, refl)
at_place (y ∷ ys) (suc i) h = at_place ys i (omega arith)

-- the last element goes before those that were taken
pub taken : {X : Type 0} (all before after done : List X) (x : X) → all ≡ before ++ done → before ≡ after ++ x ∷ [] → all ≡ after ++ x ∷ done
taken all before after done x e f = e ∙ ap (λ xs. xs ++ done) f ∙ append_assoc after (x ∷ []) done
