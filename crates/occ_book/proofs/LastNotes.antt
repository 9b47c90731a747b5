-- The last write of each object, as they are noted one after another.
use Rattle.std.proofs.Common.{◌≡◌, ◌<◌, ℕ, ◌+◌, length, Bool, true, false, cond, List, [], ◌∷◌, drop, Option, None, Some, refl, sym, ap, subst, ◌∙◌, arith, Bor, slice_get, option_copied, option_map, BTreeMap, Less, is_eq}
use Rattle.occ_book.proofs.Common.{AllByRecursion, IsDistinct, IsStrictlySortedBy, keys_of, lookup, eq_by_cmp_equiv, tied_itself, get, Num, KeyText, Pair, Object, object_cmp, object_cmp_total, One, Row, object_of, WritesOnce, objects, State, Write, Answer, Found, answer, put, apply, own, IsDistinctWrites, same, same_object, get-put, same_state, decided, writes_in, ArePlaced}
use Rattle.occ_types.specs.declared.objects.Object as code_object
use Rattle.occ_types.specs.declared.keys.Key.TheVariants as keys
use Rattle.occ_model.proofs.OwnWrites.{overlays_answer}
use Rattle.occ_book.proofs.Parted.{drop-at, slice_get-none}

-- an own write, and else what stands in the table
abbrev pub over : Option (Option Row) → Option Row → Option Row
over None row = row
over (Some own_row) row = own_row

-- the writes leave at each object the own write of it
pub get-own : (writes : List Write) (state : State) (object : Object) → IsDistinctWrites writes → get (apply state writes) object ≡ over (own writes object) (get state object)
unfolding answer
get-own writes state object distinct =
    by (own writes object) (get state object) (get (apply state writes) object) (overlays_answer (One object.0 object.1) writes state distinct)
  where
    by : (o : Option (Option Row)) (x y : Option Row) → (let given : Answer = Found x in elim o [ None ↦ given | Some row ↦ Found row ]) ≡ Found y → y ≡ over o x
    by None x y e = cc
    by (Some row) x y e = cc

-- the write at a place is done
pub write-more : (state next : State) (writes : List Write) (i : ℕ) (write : Write) → slice_get writes i ≡ Some write → next ≡ put state write → apply next (drop (i + 1) writes) ≡ apply state (drop i writes)
write-more state next writes i write at is =
    ap (λ s. apply s (drop (i + 1) writes)) is ∙ ap (apply state) (sym (drop-at writes i write at))

-- there is a write at each place
pub no_write : (writes : List Write) (i : ℕ) → i < length writes → slice_get writes i ≡ None → ⊥
no_write writes i h e =
    let past = slice_get-none writes i (sym e) in
    absurd (omega arith)

-- each object that is written is in a table that is there
abbrev pub OwnArePlaced : ℕ → List Write → Type 0
OwnArePlaced tables writes = (object : Object) (row : Option Row) → own writes object ≡ Some row → object.0 < tables

pub own-placed : (tables : ℕ) (writes : List Write) → ArePlaced tables writes → OwnArePlaced tables writes
own-placed tables [] are object row e = cc
own-placed tables (write ∷ writes) are object row e = decided (same object write.0)
    (λ is. subst (λ (o : Object). o.0 < tables) (sym (same_object object write.0 is)) are.0)
    (λ not. own-placed tables writes are.1 object row (ap (λ b. cond b (Some write.1) (own writes object)) (sym not) ∙ e))

pub placed-own : (tables : ℕ) (writes : List Write) → OwnArePlaced tables writes → ArePlaced tables writes
placed-own tables [] are = tt
placed-own tables (write ∷ writes) are = (
  are write.0 write.1 (ap (λ b. cond b (Some write.1) (own writes write.0)) (ap is_eq (tied_itself object_cmp_total write.0))),
  placed-own tables writes (λ object row e. by object row e (same object write.0) refl),
)
  where
    by : (object : Object) (row : Option Row) → own writes object ≡ Some row → (b : Bool) → same object write.0 ≡ b → object.0 < tables
    by object row e true is = are object write.1 (ap (λ b. cond b (Some write.1) (own writes object)) is)
    by object row e false is = are object row (ap (λ b. cond b (Some write.1) (own writes object)) is ∙ e)

module _ {Z : Type 0} where
  -- lent objects in order
  abbrev pub AreInOrder : List (Bor (code_object.Object Z) × Option (Bor Row)) → Type 0
  AreInOrder es = IsStrictlySortedBy (λ a b. object_cmp (object_of a.now) (object_of b.now)) (keys_of es)

  own-writes_in : (es : List (Bor (code_object.Object Z) × Option (Bor Row))) (o : Object) → own (writes_in es) o ≡ option_map option_copied (lookup (λ x. same o (object_of x.now)) es)
  own-writes_in [] o = refl
  own-writes_in (e ∷ es) o = ap (cond (same o (object_of e.0.now)) (Some (option_copied e.1))) (own-writes_in es o) ∙ by (same o (object_of e.0.now))
    where
      by : (b : Bool) → cond b (Some (option_copied e.1)) (option_map option_copied (lookup (λ x. same o (object_of x.now)) es)) ≡ option_map option_copied (cond b (Some e.1) (lookup (λ x. same o (object_of x.now)) es))
      by true = refl
      by false = refl

  own-below : (o : Object) (es : List (Bor (code_object.Object Z) × Option (Bor Row))) → AllByRecursion (λ y. object_cmp o (object_of y.now) ≡ Less) (keys_of es) → own (writes_in es) o ≡ None
  own-below o [] h = refl
  own-below o (e ∷ es) h =
      ap (λ r. cond (is_eq r) (Some (option_copied e.1)) (own (writes_in es) o)) h.0 ∙ own-below o es h.1

  -- of objects in order no two are one
  pub distinct-writes_in : (es : List (Bor (code_object.Object Z) × Option (Bor Row))) → AreInOrder es → IsDistinctWrites (writes_in es)
  unfolding IsStrictlySortedBy
  distinct-writes_in [] h = tt
  distinct-writes_in (e ∷ es) h = (own-below (object_of e.0.now) es h.0, distinct-writes_in es h.1)

  apart-below : (o : Object) (es : List (Bor (code_object.Object Z) × Option (Bor Row))) → AllByRecursion (λ y. object_cmp o (object_of y.now) ≡ Less) (keys_of es) → AllByRecursion (λ other. same o other ≡ false) (objects (writes_in es))
  apart-below o [] h = tt
  apart-below o (e ∷ es) h = (ap is_eq h.0, apart-below o es h.1)

  -- none of them is written twice
  pub once-writes_in : (es : List (Bor (code_object.Object Z) × Option (Bor Row))) → AreInOrder es → WritesOnce (writes_in es)
  unfolding IsStrictlySortedBy IsDistinct
  once-writes_in [] h = tt
  once-writes_in (e ∷ es) h = (apart-below (object_of e.0.now) es h.0, once-writes_in es h.1)

  -- each object is that of the code's, behind some reference
  pub code_of : (o : Object) → (x : Bor (code_object.Object Z)) × (object_of x.now ≡ o)
  code_of (t, Num n) = (record { ref_ptr = (0, 0); now = record { table = t; key = keys.Num n } }, refl)
  code_of (t, KeyText s) = (record { ref_ptr = (0, 0); now = record { table = t; key = keys.Text s } }, refl)
  code_of (t, Pair a b) = (record { ref_ptr = (0, 0); now = record { table = t; key = keys.Pair (a, b) } }, refl)

  module _ (m n : BTreeMap (Bor (code_object.Object Z)) (Option (Bor Row))) (x : Bor (code_object.Object Z)) (row : Option (Bor Row))
      (is : (q : Bor (code_object.Object Z)) → lookup (λ y. same (object_of q.now) (object_of y.now)) n.entries ≡ cond (same (object_of x.now) (object_of q.now)) (Some row) (lookup (λ y. same (object_of q.now) (object_of y.now)) m.entries)) where
    copied : (b : Bool) (o : Option (Option (Bor Row))) → option_map option_copied (cond b (Some row) o) ≡ cond b (Some (option_copied row)) (option_map option_copied o)
    copied true o = refl
    copied false o = refl

    own-at : (p : Object) → own (writes_in n.entries) p ≡ cond (same p (object_of x.now)) (Some (option_copied row)) (own (writes_in m.entries) p)
    own-at p =
        own-writes_in n.entries p
        ∙ ap (option_map option_copied) (let q = code_of p in subst (λ o. lookup (λ y. same o (object_of y.now)) n.entries ≡ cond (same (object_of x.now) o) (Some row) (lookup (λ y. same o (object_of y.now)) m.entries)) q.1 (is q.0))
        ∙ copied (same (object_of x.now) p) (lookup (λ y. same p (object_of y.now)) m.entries)
        ∙ (λ i. cond ((eq_by_cmp_equiv object_cmp_total).symm (object_of x.now) p i) (Some (option_copied row)) (sym (own-writes_in m.entries p) i))

    over-cond : (b : Bool) (o : Option (Option Row)) (r : Option Row) → over (cond b (Some (option_copied row)) o) r ≡ cond b (option_copied row) (over o r)
    over-cond true o r = refl
    over-cond false o r = refl

    -- one more write is noted, in the place of an earlier one of its object
    pub noted : AreInOrder m.entries → AreInOrder n.entries → (table : State) → apply table (writes_in n.entries) ≡ put (apply table (writes_in m.entries)) (object_of x.now, option_copied row)
    noted before after table = same_state _ _ (λ p.
        get-own (writes_in n.entries) table p (distinct-writes_in n.entries after)
        ∙ ap (λ o. over o (get table p)) (own-at p)
        ∙ over-cond (same p (object_of x.now)) (own (writes_in m.entries) p) (get table p)
        ∙ ap (cond (same p (object_of x.now)) (option_copied row)) (sym (get-own (writes_in m.entries) table p (distinct-writes_in m.entries before)))
        ∙ sym (get-put (apply table (writes_in m.entries)) (object_of x.now, option_copied row) p))

    -- and all are of tables that are there where it is
    pub noted-placed : (tables : ℕ) → ArePlaced tables (writes_in m.entries) → (object_of x.now).0 < tables → ArePlaced tables (writes_in n.entries)
    noted-placed tables are here = placed-own tables (writes_in n.entries) (λ p r e. by p r e (same p (object_of x.now)) refl)
      where
        by : (p : Object) (r : Option Row) → own (writes_in n.entries) p ≡ Some r → (b : Bool) → same p (object_of x.now) ≡ b → p.0 < tables
        by p r e true same_as = subst (λ (o : Object). o.0 < tables) (sym (same_object p (object_of x.now) same_as)) here
        by p r e false apart =
            own-placed tables (writes_in m.entries) are p r (ap (λ b. cond b (Some (option_copied row)) (own (writes_in m.entries) p)) (sym apart) ∙ sym (own-at p) ∙ e)
