-- The entries of a map, seen as plain writes.
use Rattle.std.proofs.Common.{◌≡◌, ◌≤◌, ℕ, ◌+◌, Bool, true, false, cond, ◌&&◌, not, nat_le, List, [], ◌∷◌, ◌++◌, Option, None, Some, is_some, Result, Ok, Err, length, refl, sym, ap, subst, ◌∙◌, arith}
use Rattle.std.proofs.lemmas.List.{length-map, length_push}
use Rattle.std.specs.Prelude.{OnOk, OnErr}
use Rattle.std.proofs.lemmas.Bool.Decides.{nat_tests}
use Rattle.std.specs.List.{IsDistinct, AllByRecursion}
use Rattle.std.specs.Map.{keys_of, lookup}
use Rattle.std.specs.Ordering.{on, eq_by_cmp}
use Rattle.indexmap.specs.IndexMap.{insert_entry}
use Rattle.occ_types.specs.declared.objects.Object as code
use Rattle.occ_types.specs.declared.limits.TheConstants.{MAX_WRITES}
use Rattle.occ_types.specs.Object.{Object, object_cmp}
use Rattle.occ_types.specs.Row.{Row}
use Rattle.occ_types.specs.PlainData.{object_of}
use Rattle.occ_model.specs.State.{Write}
use Rattle.occ_model.specs.Overlay.{set, own}
use Rattle.occ_model.proofs.OwnWrites.{sets_own}
use Rattle.occ_sets.specs.PlainSets.{write_of, writes_of}
use Rattle.occ_sets.specs.Sets.{WritesOnce, objects, is_full_for}

-- no value is none
some_absent : {X : Type 0} (r : Option X) → false ≡ is_some r → r ≡ None
some_absent None e = refl
some_absent (Some x) e = cc

-- no writes write nothing twice
pub none-WritesOnce : WritesOnce []
unfolding IsDistinct
none-WritesOnce = tt

-- a set is full for no object that it has
pub full_for_new : (writes : List Write) (object : Object) → is_full_for writes object ≡ true → own writes object ≡ None
full_for_new writes object full = by (own writes object) refl
  where
    kept : (b : Bool) → (b && false) ≡ false
    kept true = refl
    kept false = refl

    by : (o : Option (Option Row)) → own writes object ≡ o → o ≡ None
    by None e = refl
    by (Some row) e =
        let out : is_full_for writes object ≡ false = ap (λ o. nat_le MAX_WRITES (length writes) && not (is_some o)) e ∙ kept (nat_le MAX_WRITES (length writes)) in
        cc

-- one write more or none, where a write is not one too many
one_more : (n : ℕ) (there : Bool) → (nat_le MAX_WRITES n && not there) ≡ false → n ≤ 256 → cond there n (n + 1) ≤ 256
one_more n true room few = few
one_more n false room few = by (nat_le MAX_WRITES n) refl
  where
    by : (b : Bool) → nat_le MAX_WRITES n ≡ b → n + 1 ≤ 256
    by true e =
        let full : true ≡ false = sym (ap (λ b. b && true) e) ∙ room in
        cc
    by false e = grind (arith, nat_tests)

counted : (b : Bool) (xs : List Object) (object : Object) → length (cond b xs (xs ++ object ∷ [])) ≡ cond b (length xs) (length xs + 1)
counted true xs object = refl
counted false xs object = length_push xs object

-- a write of a new object is one more, and one of an object that is there none
set_length : (writes : List Write) (object : Object) (row : Option Row) → length (set writes object row) ≡ cond (is_some (own writes object)) (length writes) (length writes + 1)
set_length writes object row =
    let many : length (objects writes) ≡ length writes = length-map writes (λ (w : Write). w.0) in
    sym (length-map (set writes object row) (λ (w : Write). w.0))
    ∙ ap length (sets_own writes object row).places
    ∙ counted (is_some (own writes object)) (objects writes) object
    ∙ ap (λ (n : ℕ). cond (is_some (own writes object)) n (n + 1)) many

-- a set that was not full for an object has at most as many writes as it may, also after the write
pub few_set : {X Y : Type 0} (r : Result X Y) (writes new : List Write) (object : Object) (row : Option Row) → is_full_for writes object ≡ false → OnOk r (new ≡ set writes object row) → OnErr r (new ≡ writes) → length writes ≤ MAX_WRITES → length new ≤ MAX_WRITES
few_set (Ok x) writes new object row room ok err few =
    subst (λ (n : ℕ). n ≤ 256) (sym (ap length ok ∙ set_length writes object row)) (one_more (length writes) (is_some (own writes object)) room few)
few_set (Err y) writes new object row room ok err few = subst (λ (n : ℕ). n ≤ 256) (sym (ap length err)) few

module _ {Z : Type 0} where
  -- whether two objects are equal
  abbrev pub tied : code.Object Z → code.Object Z → Bool
  tied = on object_of (eq_by_cmp object_cmp)

  -- a look-up answers the own write
  pub own-writes_of : (o : code.Object Z) (es : List (code.Object Z × Option Row)) → own (writes_of es) (object_of o) ≡ lookup (tied o) es
  own-writes_of o [] = refl
  own-writes_of o (e ∷ es) = ap (cond (tied o e.0) (Some e.1)) (own-writes_of o es)

  -- the own write, where the entries are seen as some writes
  pub own_seen : (o : code.Object Z) (es : List (code.Object Z × Option Row)) (writes : List Write) → writes_of es ≡ writes → lookup (tied o) es ≡ own writes (object_of o)
  own_seen o es writes seen = sym (own-writes_of o es) ∙ ap (λ ws. own ws (object_of o)) seen

  -- and none where the look-up finds none
  pub own_absent : (o : code.Object Z) (es : List (code.Object Z × Option Row)) (writes : List Write) → writes_of es ≡ writes → false ≡ is_some (lookup (tied o) es) → own writes (object_of o) ≡ None
  own_absent o es writes seen none = sym (own_seen o es writes seen) ∙ some_absent (lookup (tied o) es) none

  cases : (b : Bool) (e : code.Object Z × Option Row) (row : Option Row) (es rest : List (code.Object Z × Option Row)) → cond b ((object_of e.0, row) ∷ writes_of es) (write_of e ∷ writes_of rest) ≡ writes_of (cond b ((e.0, row) ∷ es) (e ∷ rest))
  cases true e row es rest = refl
  cases false e row es rest = refl

  -- an insert is one more write
  pub set-writes_of : (o : code.Object Z) (row : Option Row) (es : List (code.Object Z × Option Row)) → writes_of (insert_entry tied es o row) ≡ set (writes_of es) (object_of o) row
  set-writes_of o row [] = refl
  set-writes_of o row (e ∷ es) =
      sym (cases (tied o e.0) e row es (insert_entry tied es o row))
      ∙ ap (λ rest. cond (tied o e.0) ((object_of e.0, row) ∷ writes_of es) (write_of e ∷ rest)) (set-writes_of o row es)

  apart : (o : code.Object Z) (es : List (code.Object Z × Option Row)) → AllByRecursion (λ k. tied o k ≡ false) (keys_of es) → AllByRecursion (λ p. eq_by_cmp object_cmp (object_of o) p ≡ false) (objects (writes_of es))
  apart o [] h = h
  apart o (e ∷ es) h = (h.0, apart o es h.1)

  -- keys that are distinct are so as objects
  pub objects-IsDistinct : (es : List (code.Object Z × Option Row)) → IsDistinct tied (keys_of es) → IsDistinct (eq_by_cmp object_cmp) (objects (writes_of es))
  unfolding IsDistinct
  objects-IsDistinct [] h = h
  objects-IsDistinct (e ∷ es) h = (apart e.0 es h.0, objects-IsDistinct es h.1)

  -- as many writes as entries
  pub length-writes_of : (es : List (code.Object Z × Option Row)) → length (writes_of es) ≡ length es
  length-writes_of es = length-map es write_of
