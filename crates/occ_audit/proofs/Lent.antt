-- A state that is kept as the lent rows of each table: what it has at an object, and what a write does to it.
use Rattle.std.proofs.Common.{◌≡◌, ℕ, nat_eq, Bool, true, false, not, ◌&&◌, cond, List, [], ◌∷◌, Option, None, Some, refl, sym, ap, subst, ◌∙◌, MatchOption, Bor, option_copied, nat_cmp, is_eq, Less}
use Rattle.occ_audit.proofs.Common.{AllByRecursion, IsStrictlySortedBy, keys_of, option_or, sorted_head, sorted_tail, key_cmp, key_same-decides, lookup, eq_by_cmp_equiv, nat_cmp_total, unsigned_tied, unsigned_Decides, get, get-empty, get-insert, get-retain_keys, Key, Object, object_cmp, object_cmp_total, object_cmp-IsAntisymmetric, Row, key_same, object_tied, State, put, get-put, same_state, of_cond, row_under, with_table, state_of, IsPlaced}
use Rattle.occ_book.proofs.Views.{alone, row_in}
use Rattle.occ_book.specs.Table.{IsWritten}

unless : {X : Type 0} (b : Bool) (x y : X) → cond (not b) x y ≡ cond b y x
unless true x y = refl
unless false x y = refl

-- a test of the table before each test of a key is a test before all
gated : {X : Type 0} (b c : Bool) (x y z : X) → cond (b && c) x (cond b y z) ≡ cond b (cond c x y) z
gated true c x y z = refl
gated false c x y z = refl

pub turned : (t u : ℕ) → is_eq (nat_cmp t u) ≡ nat_eq u t
turned t u = (eq_by_cmp_equiv nat_cmp_total).symm t u ∙ unsigned_tied u t

get-with_table : (t : ℕ) (es : List (Key × Row)) (s : State) (u : ℕ) (k : Key) → get (with_table t es s) (u, k) ≡ cond (nat_eq u t) (row_under es k) (get s (u, k))
get-with_table t [] s u k =
    let test : Object → Bool = λ o. not (nat_eq o.0 t) in
    get-retain_keys s test (u, k) (λ x e. sym (ap test (object_cmp-IsAntisymmetric (u, k) x e)))
    ∙ unless (nat_eq u t) (get s (u, k)) None
get-with_table t (e ∷ es) s u k =
    get-insert object_cmp_total (with_table t es s) (t, e.0) e.1 (u, k)
    ∙ (λ i. cond (object_tied u t k e.0 i) (Some e.1) (get-with_table t es s u k i))
    ∙ gated (nat_eq u t) (key_same k e.0) (Some e.1) (row_under es k) (get s (u, k))

below : (key : Key) (es : List (Key × Row)) → AllByRecursion (λ y. key_cmp key y ≡ Less) (keys_of es) → row_under es key ≡ None
below key [] h = refl
below key (e ∷ es) h = ap (λ r. cond (is_eq r) (Some e.1) (row_under es key)) h.0 ∙ below key es h.1

-- the rows of a table
abbrev pub table_at : List (ℕ × List (Key × Row)) → ℕ → Option (List (Key × Row))
table_at tables t = lookup (λ x. is_eq (nat_cmp t x)) tables

-- the state has at an object what its table has at its key
pub get-state_of : (tables : List (ℕ × List (Key × Row))) (t : ℕ) (k : Key) → get (state_of tables) (t, k) ≡ row_in (table_at tables t) k
unfolding state_of
get-state_of [] t k = get-empty object_cmp (t, k)
get-state_of (e ∷ es) t k =
    get-with_table e.0 e.1 (state_of es) t k
    ∙ (λ i. cond (sym (unsigned_tied t e.0) i) (row_under e.1 k) (get-state_of es t k i))
    ∙ sym (of_cond (λ o. row_in o k) (is_eq (nat_cmp t e.0)) (Some e.1) (table_at es t))

-- the same of a state that is seen so
pub get-in : (tables : List (ℕ × List (Key × Row))) (t : ℕ) (old : State) (o : Option (List (Key × Row))) → state_of tables ≡ old → table_at tables t ≡ o → (k : Key) → get old (t, k) ≡ row_in o k
get-in tables t old o view at k =
    ap (λ s. get s (t, k)) (sym view) ∙ get-state_of tables t k ∙ ap (λ m. row_in m k) at

-- what a look-up of a table finds
pub rows-found : (tables : List (ℕ × List (Key × Row))) (t : ℕ) (old : State) (r : Option (Bor (List (Key × Row)))) → state_of tables ≡ old → option_copied r ≡ table_at tables t → MatchOption r ((k : Key) → get old (t, k) ≡ None) (λ rows. (k : Key) → get old (t, k) ≡ row_under rows.now k)
rows-found tables t old None view at = get-in tables t old None view (sym at)
rows-found tables t old (Some m) view at = get-in tables t old (Some m.now) view (sym at)

-- the tables, with these rows in the place of a table's or as those of a new one
abbrev pub Places : List (ℕ × List (Key × Row)) → List (ℕ × List (Key × Row)) → ℕ → List (Key × Row) → Type 0
Places tables next t n = (u : ℕ) → table_at next u ≡ cond (is_eq (nat_cmp t u)) (Some n) (table_at tables u)

-- so the state has them
pub rows-placed : (tables next : List (ℕ × List (Key × Row))) (t : ℕ) (n : List (Key × Row)) (old : State) → state_of tables ≡ old → Places tables next t n → IsPlaced t n old (state_of next)
rows-placed tables next t n old view placed object =
    get-state_of next object.0 object.1
    ∙ ap (λ m. row_in m object.1) (placed object.0)
    ∙ ap (λ b. row_in (cond b (Some n) (table_at tables object.0)) object.1) (turned t object.0)
    ∙ of_cond (λ o. row_in o object.1) (nat_eq object.0 t) (Some n) (table_at tables object.0)
    ∙ ap (cond (nat_eq object.0 t) (row_under n object.1)) (sym (get-in tables object.0 old (table_at tables object.0) view refl object.1))

-- a write of a table's rows is one of the state
pub written-put : (t : ℕ) (key : Key) (row : Option Row) (m n : List (Key × Row)) (old new : State) → IsPlaced t n old new → ((k : Key) → get old (t, k) ≡ row_under m k) → IsWritten m key row n → new ≡ put old ((t, key), row)
written-put t key row m n old new placed was written = same_state _ _ (λ object.
    placed object
    ∙ by object.0 object.1 (nat_eq object.0 t) refl
    ∙ (λ i. cond (sym (object_tied object.0 t object.1 key) i) row (get old object))
    ∙ sym (get-put old ((t, key), row) object))
  where
    by : (u : ℕ) (k : Key) (b : Bool) → nat_eq u t ≡ b → cond b (row_under n k) (get old (u, k)) ≡ cond (b && key_same k key) row (get old (u, k))
    by u k true e =
        written k ∙ ap (cond (key_same k key) row) (sym (was k) ∙ ap (λ v. get old (v, k)) (sym ((unsigned_Decides u t).0 e)))
    by u k false e = refl

-- some rows of a table are found under their keys, and these are left, in order: both together are all
pub record Lends (whole left : List (Key × Row)) (found : Key → Option Row) : Type 0 where
  pub ordered : IsStrictlySortedBy key_cmp (keys_of left)
  pub all : (k : Key) → option_or (row_under left k) (found k) ≡ row_under whole k

pub lends-none : (whole left : List (Key × Row)) (found : Key → Option Row) → left ≡ whole → ((k : Key) → found k ≡ None) → IsStrictlySortedBy key_cmp (keys_of whole) → Lends whole left found
lends-none whole left found all none ordered = record {
  ordered = subst (λ es. IsStrictlySortedBy key_cmp (keys_of es)) (sym all) ordered;
  all = λ k. (λ i. option_or (row_under (all i) k) (none k i)) ∙ alone (row_under whole k);
}

pub lends-more : (whole left more : List (Key × Row)) (key : Key) (row : Row) (found next : Key → Option Row) → left ≡ (key, row) ∷ more → Lends whole left found → ((k : Key) → next k ≡ cond (key_same k key) (Some row) (found k)) → Lends whole more next
lends-more whole left more key row found next is lends written = record {
  ordered = sorted_tail _ key (keys_of more) sorted;
  all = λ k.
      ap (option_or (row_under more k)) (written k)
      ∙ by k (key_same k key) refl
      ∙ ap (λ es. option_or (row_under es k) (found k)) (sym is)
      ∙ lends.all k;
}
  where
    sorted : IsStrictlySortedBy key_cmp (key ∷ keys_of more)
    sorted = subst (λ es. IsStrictlySortedBy key_cmp (keys_of es)) is lends.ordered

    by : (k : Key) (b : Bool) → key_same k key ≡ b → option_or (row_under more k) (cond b (Some row) (found k)) ≡ option_or (cond b (Some row) (row_under more k)) (found k)
    by k true e = ap (λ r. option_or r (Some row)) (ap (row_under more) ((key_same-decides k key).0 e) ∙ below key more (sorted_head _ key (keys_of more) sorted))
    by k false e = refl

pub lends-all : (whole left : List (Key × Row)) (found : Key → Option Row) → left ≡ [] → Lends whole left found → (k : Key) → found k ≡ row_under whole k
lends-all whole left found nothing lends k = ap (λ es. option_or (row_under es k) (found k)) (sym nothing) ∙ lends.all k
