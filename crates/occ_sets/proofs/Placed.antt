-- The writes of a list, by their places.
use Rattle.std.proofs.Common.{◌≡◌, ◌<◌, ◌+◌, ℕ, zero, suc, Bool, true, false, cond, ◌||◌, List, [], ◌∷◌, ◌++◌, Option, None, Some, is_some, Result, Ok, Err, length, get_or, set as put_at, fold, append_assoc, append-nil, refl, sym, ap, subst, ◌∙◌, arith}
use Rattle.std.specs.Prelude.{OnOk, OnErr}
use Rattle.std.specs.List.{position, position_from, list_any, find, AllByRecursion, IsDistinct}
use Rattle.std.specs.Option.{option_map}
use Rattle.std.specs.Ordering.{eq_by_cmp}
use Rattle.std.proofs.lemmas.Cmp.{eq_by_cmp_equiv}
use Rattle.std.proofs.lemmas.Iterator.Adapters.{position_from-zero}
use Rattle.std.proofs.lemmas.List.{map-append}
use Rattle.std.proofs.lemmas.List.Quantifiers.{position-Some}
use Rattle.std.proofs.lemmas.List.Sums.{fold-append}
use Rattle.std.proofs.lemmas.Map.Keys.{IsDistinct-push}
use Rattle.occ_types.specs.declared.objects.Object as code
use Rattle.occ_types.specs.Object.{Object, object_cmp, object_cmp_total}
use Rattle.occ_types.specs.Row.{Row}
use Rattle.occ_types.specs.PlainData.{object_of}
use Rattle.occ_model.specs.State.{Write}
use Rattle.occ_model.specs.Overlay.{set, own}
use Rattle.occ_model.specs.RangeLaws.{set_all}
use Rattle.occ_model.proofs.OwnWrites.{sets_own}
use Rattle.occ_sets.specs.PlainSets.{write_of, writes_of}
use Rattle.occ_sets.specs.Sets.{WritesOnce, objects, place_in}
use Rattle.occ_sets.proofs.WriteEntries.{tied}
use Rattle.occ_sets.proofs.Meetings.{or_some}

-- whether a write is of the object
abbrev is_of : Object → Write → Bool
is_of o = λ write. eq_by_cmp object_cmp o write.0

none_from : (writes : List Write) (o : Object) (i : ℕ) → position_from (is_of o) i writes ≡ None → own writes o ≡ None
none_from [] o i h = refl
none_from (w ∷ ws) o i h = by (is_of o w) refl (none_from ws o (i + 1))
  where
    by : (b : Bool) → is_of o w ≡ b → (position_from (is_of o) (i + 1) ws ≡ None → own ws o ≡ None) → own (w ∷ ws) o ≡ None
    by true e rest =
        let some : Some i ≡ None = ap (λ b. cond b (Some i) (position_from (is_of o) (i + 1) ws)) (sym e) ∙ h in
        cc
    by false e rest =
        ap (λ b. cond b (Some w.1) (own ws o)) e ∙ rest (ap (λ b. cond b (Some i) (position_from (is_of o) (i + 1) ws)) (sym e) ∙ h)

-- an object without a place is not written
pub unplaced : (writes : List Write) (o : Object) → place_in writes o ≡ None → own writes o ≡ None
unplaced writes o h = none_from writes o 0 (sym (position_from-zero (is_of o) writes) ∙ h)

-- a write of an object that is not there goes last
pub set_new : (writes : List Write) (o : Object) (row : Option Row) → own writes o ≡ None → set writes o row ≡ writes ++ (o, row) ∷ []
set_new [] o row h = refl
set_new (w ∷ ws) o row h = by (is_of o w) refl (set_new ws o row)
  where
    by : (b : Bool) → is_of o w ≡ b → (own ws o ≡ None → set ws o row ≡ ws ++ (o, row) ∷ []) → set (w ∷ ws) o row ≡ w ∷ (ws ++ (o, row) ∷ [])
    by true e rest =
        let some : Some w.1 ≡ None = ap (λ b. cond b (Some w.1) (own ws o)) (sym e) ∙ h in
        cc
    by false e rest =
        ap (λ b. cond b ((w.0, row) ∷ ws) (w ∷ set ws o row)) e
        ∙ ap (λ ws. w ∷ ws) (rest (ap (λ b. cond b (Some w.1) (own ws o)) (sym e) ∙ h))

first_set : (writes : List Write) (o : Object) (row : Option Row) (i : ℕ) (d : Write) → i < length writes → is_of o (get_or writes i d) ≡ true → ((k : ℕ) → k < i → is_of o (get_or writes k d) ≡ false) → set writes o row ≡ put_at writes i ((get_or writes i d).0, row)
first_set [] o row i d l t h = absurd (omega (arith, l))
first_set (w ∷ ws) o row zero d l t h = ap (λ b. cond b ((w.0, row) ∷ ws) (w ∷ set ws o row)) t
first_set (w ∷ ws) o row (suc i) d l t h =
    ap (λ b. cond b ((w.0, row) ∷ ws) (w ∷ set ws o row)) (h 0 (omega arith))
    ∙ ap (λ ws. w ∷ ws) (first_set ws o row i d (omega (arith, l)) t (λ k m. h (suc k) (omega (arith, m))))

-- a place is that of a write
pub placed_within : (writes : List Write) (o : Object) (i : ℕ) (d : Write) → place_in writes o ≡ Some i → i < length writes
placed_within writes o i d h = (position-Some (is_of o) writes i d h).0

-- a write of an object that has a place stands there
pub set_placed : (writes : List Write) (o : Object) (row : Option Row) (i : ℕ) (d : Write) → place_in writes o ≡ Some i → set writes o row ≡ put_at writes i ((get_or writes i d).0, row)
set_placed writes o row i d h =
    let at = position-Some (is_of o) writes i d h in
    first_set writes o row i d at.0 at.1 at.2

-- a look-up among the objects finds those that are written
any_object : (writes : List Write) (o : Object) → list_any (eq_by_cmp object_cmp o) (objects writes) ≡ is_some (own writes o)
any_object [] o = refl
any_object (w ∷ ws) o =
    ap (λ b. eq_by_cmp object_cmp o w.0 || b) (any_object ws o)
    ∙ or_some (eq_by_cmp object_cmp o w.0) w.1 (own ws o)

-- no object comes to be written twice
pub once_set : (writes : List Write) (o : Object) (row : Option Row) → WritesOnce writes → WritesOnce (set writes o row)
once_set writes o row h = subst (IsDistinct (eq_by_cmp object_cmp)) (sym (sets_own writes o row).places) (by (own writes o) refl)
  where
    by : (r : Option (Option Row)) → own writes o ≡ r → IsDistinct (eq_by_cmp object_cmp) (cond (is_some (own writes o)) (objects writes) (objects writes ++ o ∷ []))
    by None e =
        subst (λ r. IsDistinct (eq_by_cmp object_cmp) (cond (is_some r) (objects writes) (objects writes ++ o ∷ []))) (sym e) (IsDistinct-push (eq_by_cmp_equiv object_cmp_total) (objects writes) o h (any_object writes o ∙ ap is_some e))
    by (Some row) e =
        subst (λ r. IsDistinct (eq_by_cmp object_cmp) (cond (is_some r) (objects writes) (objects writes ++ o ∷ []))) (sym e) h

-- so they stay distinct, whether a write is done or not
pub once_after : {X Y : Type 0} (r : Result X Y) (writes new : List Write) (o : Object) (row : Option Row) → OnOk r (new ≡ set writes o row) → OnErr r (new ≡ writes) → WritesOnce writes → WritesOnce new
once_after (Ok x) writes new o row ok err h = subst WritesOnce (sym ok) (once_set writes o row h)
once_after (Err y) writes new o row ok err h = subst WritesOnce (sym err) h

picked : (P : Object → Type 0) (before : List Write) (w : Write) (after : List Write) → AllByRecursion P (objects (before ++ w ∷ after)) → P w.0
picked P [] w after h = h.0
picked P (x ∷ xs) w after h = picked P xs w after h.1

apart : (before : List Write) (w : Write) (after : List Write) → WritesOnce (before ++ w ∷ after) → own before w.0 ≡ None
unfolding IsDistinct
apart [] w after h = refl
apart (x ∷ xs) w after h =
    ap (λ b. cond b (Some x.1) (own xs w.0)) ((eq_by_cmp_equiv object_cmp_total).symm w.0 x.0 ∙ picked (λ o. eq_by_cmp object_cmp x.0 o ≡ false) xs w after h.0)
    ∙ apart xs w after h.1

all_on : (before writes : List Write) → WritesOnce (before ++ writes) → fold (λ so_far write. set so_far write.0 write.1) before writes ≡ before ++ writes
all_on before [] h = sym (append-nil before)
all_on before (w ∷ ws) h =
    let next : set before w.0 w.1 ≡ before ++ w ∷ [] = set_new before w.0 w.1 (apart before w ws h) in
    ap (λ so_far. fold (λ so_far write. set so_far write.0 write.1) so_far ws) next
    ∙ all_on (before ++ w ∷ []) ws (subst WritesOnce (sym (append_assoc before (w ∷ []) ws)) h)
    ∙ append_assoc before (w ∷ []) ws

-- writes of distinct objects, done one after the other, are what they are
pub set_all_once : (writes : List Write) → WritesOnce writes → set_all writes ≡ writes
set_all_once writes h = all_on [] writes h

module _ {Z : Type 0} where
  -- one more write is done last
  pub set_all_push : (es : List (code.Object Z × Option Row)) (e : code.Object Z × Option Row) → set_all (writes_of (es ++ e ∷ [])) ≡ set (set_all (writes_of es)) (object_of e.0) e.1
  set_all_push es e =
      ap set_all (map-append write_of es (e ∷ []))
      ∙ fold-append (λ so_far write. set so_far write.0 write.1) [] (writes_of es) (write_of e ∷ [])

  put_map : (es : List (code.Object Z × Option Row)) (i : ℕ) (e : code.Object Z × Option Row) → writes_of (put_at es i e) ≡ put_at (writes_of es) i (write_of e)
  put_map [] i e = refl
  put_map (x ∷ xs) zero e = refl
  put_map (x ∷ xs) (suc i) e = ap (λ ws. write_of x ∷ ws) (put_map xs i e)

  get_map : (es : List (code.Object Z × Option Row)) (i : ℕ) (d : code.Object Z × Option Row) → get_or (writes_of es) i (write_of d) ≡ write_of (get_or es i d)
  get_map [] i d = refl
  get_map (x ∷ xs) zero d = refl
  get_map (x ∷ xs) (suc i) d = get_map xs i d

  -- the writes of a list whose entry of the object gets another row
  pub set_at : (es : List (code.Object Z × Option Row)) (o : code.Object Z) (row : Option Row) (i : ℕ) (d : code.Object Z × Option Row) → place_in (writes_of es) (object_of o) ≡ Some i → writes_of (put_at es i ((get_or es i d).0, row)) ≡ set (writes_of es) (object_of o) row
  set_at es o row i d h =
      put_map es i ((get_or es i d).0, row)
      ∙ ap (λ w. put_at (writes_of es) i (w.0, row)) (sym (get_map es i d))
      ∙ sym (set_placed (writes_of es) (object_of o) row i (write_of d) h)

  -- the same of the only write, and of each of two
  pub set_one : (a : code.Object Z × Option Row) (o : code.Object Z) (row : Option Row) (i : ℕ) → place_in (writes_of (a ∷ [])) (object_of o) ≡ Some i → writes_of ((a.0, row) ∷ []) ≡ set (writes_of (a ∷ [])) (object_of o) row
  set_one a o row zero h = set_at (a ∷ []) o row zero a h
  set_one a o row (suc i) h = absurd (omega (arith, placed_within (writes_of (a ∷ [])) (object_of o) (suc i) (write_of a) h))

  pub set_first : (a b : code.Object Z × Option Row) (o : code.Object Z) (row : Option Row) (i : ℕ) → place_in (writes_of (a ∷ b ∷ [])) (object_of o) ≡ Some i → i ≡ 0 → writes_of ((a.0, row) ∷ b ∷ []) ≡ set (writes_of (a ∷ b ∷ [])) (object_of o) row
  set_first a b o row zero h e = set_at (a ∷ b ∷ []) o row zero a h
  set_first a b o row (suc i) h e = absurd (omega (arith, e))

  pub set_second : (a b : code.Object Z × Option Row) (o : code.Object Z) (row : Option Row) (i : ℕ) → place_in (writes_of (a ∷ b ∷ [])) (object_of o) ≡ Some i → (i ≡ 0 → ⊥) → writes_of (a ∷ (b.0, row) ∷ []) ≡ set (writes_of (a ∷ b ∷ [])) (object_of o) row
  set_second a b o row zero h e = absurd (e refl)
  set_second a b o row (suc zero) h e = set_at (a ∷ b ∷ []) o row 1 a h
  set_second a b o row (suc (suc i)) h e = absurd (omega (arith, placed_within (writes_of (a ∷ b ∷ [])) (object_of o) (suc (suc i)) (write_of a) h))

  cond_from : (es : List (code.Object Z × Option Row)) (o : Object) (i : ℕ) → position_from (λ e. eq_by_cmp object_cmp o (object_of e.0)) i es ≡ position_from (is_of o) i (writes_of es)
  cond_from [] o i = refl
  cond_from (e ∷ es) o i = ap (cond (eq_by_cmp object_cmp o (object_of e.0)) (Some i)) (cond_from es o (i + 1))

  -- the place of an entry is that of its write
  pub place_of_entry : (es : List (code.Object Z × Option Row)) (o : code.Object Z) → position (λ e. tied o e.0) es ≡ place_in (writes_of es) (object_of o)
  place_of_entry es o =
      position_from-zero (λ e. tied o e.0) es
      ∙ cond_from es (object_of o) 0
      ∙ sym (position_from-zero (is_of (object_of o)) (writes_of es))

  first_cond : (b : Bool) (e : code.Object Z × Option Row) (r : Option (code.Object Z × Option Row)) → option_map (λ e. e.1) (cond b (Some e) r) ≡ cond b (Some e.1) (option_map (λ e. e.1) r)
  first_cond true e r = refl
  first_cond false e r = refl

  -- the own write is that of the first entry of the object
  pub own_found : (es : List (code.Object Z × Option Row)) (o : code.Object Z) → option_map (λ e. e.1) (find (λ e. tied o e.0) es) ≡ own (writes_of es) (object_of o)
  own_found [] o = refl
  own_found (e ∷ es) o = first_cond (tied o e.0) e (find (λ e. tied o e.0) es) ∙ ap (cond (tied o e.0) (Some e.1)) (own_found es o)
