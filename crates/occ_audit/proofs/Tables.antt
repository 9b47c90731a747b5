-- States table by table: two that have the same rows in each, and one that gets the tables of another one after another.
use Rattle.std.proofs.Common.{◌≡◌, ℕ, ◌+◌, ◌<◌, ◌≤◌, nat_eq, nat_lt, Bool, true, false, cond, List, [], ◌∷◌, Option, None, Some, refl, sym, ap, subst, ◌∙◌, arith, nat_cmp, is_eq}
use Rattle.occ_audit.proofs.Common.{nat_tests, lookup, unsigned_tied, unsigned_Decides, empty, get, get-empty, IsStrictlySortedBy, keys_of, key_cmp, Object, object_cmp, Key, Row, State, Rows, Span, answer, answers_range, same_state, decided, row-answered, IsPlaced, IsTaken, SameTable, row_under}

same_tables : (s t : State) → ((u : ℕ) → SameTable u s t) → s ≡ t
same_tables s t same = same_state s t (λ object.
    let range = answers_range s object.0 None None in
    row-answered s object.0 range.0 (sym range.1.answered) object.1
    ∙ sym (row-answered t object.0 range.0 (sym range.1.answered ∙ same object.0) object.1))

module _ (s t : State) (first : ℕ) {V : Type 0} where
  -- the tables of some entries, from a first one on, have the same rows in both
  abbrev pub AllSame : List (ℕ × V) → Type 0
  AllSame [] = Unit {0}
  AllSame (e ∷ es) = (first ≤ e.0 → SameTable e.0 s t) × AllSame es

  -- so it is of a table that is found among them
  same-found : (es : List (ℕ × V)) (u : ℕ) (m : V) → AllSame es → first ≤ u → lookup (λ x. is_eq (nat_cmp u x)) es ≡ Some m → SameTable u s t
  same-found [] u m all h at = cc
  same-found (e ∷ es) u m all h at = by (is_eq (nat_cmp u e.0)) refl (same-found es u m all.1 h)
    where
      by : (b : Bool) → is_eq (nat_cmp u e.0) ≡ b → (lookup (λ x. is_eq (nat_cmp u x)) es ≡ Some m → SameTable u s t) → SameTable u s t
      by true p later =
          let here : u ≡ e.0 = (unsigned_Decides u e.0).0 (sym (unsigned_tied u e.0) ∙ p) in
          subst (λ n. SameTable n s t) (sym here) (all.0 (subst (λ n. first ≤ n) here h))
      by false p later = later (sym (ap (λ b. cond b (Some e.1) (lookup (λ x. is_eq (nat_cmp u x)) es)) p) ∙ at)

  -- the states are the same where all tables are: those below the first one, those of the entries, and all others
  pub same-all : (es : List (ℕ × V)) → ((u : ℕ) → u < first → SameTable u s t) → AllSame es → ((u : ℕ) → first ≤ u → lookup (λ x. is_eq (nat_cmp u x)) es ≡ None → SameTable u s t) → s ≡ t
  same-all es below all absent = same_tables s t (λ u. decided (nat_lt u first)
      (λ yes. let h : u < first = grind (arith, nat_tests) in below u h)
      (λ no. let h : first ≤ u = grind (arith, nat_tests) in by u h (lookup (λ x. is_eq (nat_cmp u x)) es) refl))
    where
      by : (u : ℕ) → first ≤ u → (o : Option V) → lookup (λ x. is_eq (nat_cmp u x)) es ≡ o → SameTable u s t
      by u h None e = absent u h e
      by u h (Some m) e = same-found es u m all h e

-- the tables before a first one have the rows of other tables, and those from there on have none
abbrev pub IsFilledTo : ℕ → State → State → Type 0
IsFilledTo first taken state = (object : Object) → get state object ≡ cond (nat_lt object.0 first) (get taken object) None

pub filled-none : (taken state : State) → state ≡ empty → IsFilledTo 0 taken state
filled-none taken state is object =
    let never : nat_lt object.0 0 ≡ false = grind (arith, nat_tests) in
    ap (λ s. get s object) is ∙ get-empty object_cmp object ∙ sym (ap (λ b. cond b (get taken object) None) never)

pub filled-more : (table : ℕ) (taken old new : State) → IsFilledTo table taken old → IsTaken table taken old new → IsFilledTo (table + 1) taken new
filled-more table taken old new filled is object =
    is object ∙ ap (cond (nat_eq object.0 table) (get taken object)) (filled object) ∙ wider object.0 (get taken object)
  where
    wider : (u : ℕ) (row : Option Row) → cond (nat_eq u table) row (cond (nat_lt u table) row None) ≡ cond (nat_lt u (table + 1)) row None
    wider u row = grind (arith, nat_tests)

pub filled-all : (first count : ℕ) (taken state : State) → count ≤ first → ((object : Object) → count ≤ object.0 → get taken object ≡ None) → IsFilledTo first taken state → state ≡ taken
filled-all first count taken state all no_more filled = same_state state taken (λ object. filled object ∙ decided (nat_lt object.0 first)
    (λ e. ap (λ b. cond b (get taken object) None) e)
    (λ e.
    let past : count ≤ object.0 = grind (arith, nat_tests) in
    ap (λ b. cond b (get taken object) None) e ∙ sym (no_more object past)))

-- rows of a table that another state has there
pub table-taken : (table : ℕ) (rows kept : List (Key × Row)) (taken old new : State) → IsPlaced table rows old new → Rows kept ≡ answer (Span table None None) taken → ((k : Key) → row_under rows k ≡ row_under kept k) → IsTaken table taken old new
table-taken table rows kept taken old new placed answers are object = placed object ∙ by object.0 object.1 (nat_eq object.0 table) refl
  where
    by : (u : ℕ) (k : Key) (b : Bool) → nat_eq u table ≡ b → cond b (row_under rows k) (get old (u, k)) ≡ cond b (get taken (u, k)) (get old (u, k))
    by u k true e =
        are k ∙ sym (row-answered taken table kept answers k) ∙ ap (λ t. get taken (t, k)) (sym ((unsigned_Decides u table).0 e))
    by u k false e = refl

-- rows that a table answers are in order
pub answered-sorted : (state : State) (table : ℕ) (kept : List (Key × Row)) → Rows kept ≡ answer (Span table None None) state → IsStrictlySortedBy key_cmp (keys_of kept)
answered-sorted state table kept is =
    let range = answers_range state table None None in
    let answers : Rows kept ≡ Rows range.0 = is ∙ range.1.answered in
    let same : kept ≡ range.0 = cc in
    subst (λ rows. IsStrictlySortedBy key_cmp (keys_of rows)) (sym same) range.1.in_order
