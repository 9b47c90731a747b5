-- The last write of each object, in entries that are found by hashes: what a change of one entry does to the state, and what is due at places.
use Rattle.std.proofs.Common.{◌≡◌, ◌<◌, ◌≤◌, ℕ, zero, suc, ◌+◌, length, Bool, true, false, cond, List, [], ◌∷◌, ◌++◌, Option, None, Some, is_some, refl, sym, ap, subst, ◌∙◌, arith, map, slice_get, option_map, get_or}
use Rattle.std.specs.List.{position}
use Rattle.std.specs.Option.{option_map_or}
use Rattle.std.proofs.Common.{inl, inr, IsSome}
use Rattle.std.proofs.lemmas.Bool.{cases_lt}
use Rattle.std.proofs.lemmas.List.{length_push}
use Rattle.std.specs.Cmp.{on_equiv}
use Rattle.std.proofs.lemmas.List.Quantifiers.{position-Some}
use Rattle.indexmap.specs.IndexMap.{IndexMap, IsUnique, set_value_at, with_value_at, insert_entry}
use Rattle.indexmap.proofs.CallerLemmas.{keys-with_value_at, updates-with_value_at}
use Rattle.occ_types.specs.declared.objects.Object as code_object
use Rattle.occ_types.specs.Same.{object_same_equiv}
use Rattle.occ_model.specs.Overlay.{set, own}
use Rattle.occ_model.proofs.OwnWrites.{sets_own}
use Rattle.occ_sets.specs.PlainSets.{writes_of}
use Rattle.occ_sets.proofs.WriteEntries.{tied, own-writes_of, own_absent, set-writes_of, objects-IsDistinct}
use Rattle.occ_sets.proofs.Placed.{once_set}
use Rattle.occ_book.proofs.Common.{slice_get_within, slice_get_past, AllByRecursion, IsDistinct, keys_of, lookup, eq_by_cmp_equiv, get, get-put, Object, object_cmp_total, Row, object_of, WritesOnce, objects, State, Write, put, apply, IsDistinctWrites, same, same_object, same_state, decided, ArePlaced}
use Rattle.occ_book.specs.Folded.{due_at, objects_of, due_writes, AreThere}
use Rattle.occ_book.proofs.LastNotes.{over, get-own, own-placed, placed-own, code_of}
use Rattle.occ_book.proofs.Parted.{placed_set}
use Rattle.occ_book.proofs.Undoing.{none_there}

-- the object is written by none of them
own-apart : (object : Object) (writes : List Write) → AllByRecursion (λ other. same object other ≡ false) (objects writes) → own writes object ≡ None
own-apart object [] apart = refl
own-apart object (write ∷ writes) apart = ap (λ b. cond b (Some write.1) (own writes object)) apart.0 ∙ own-apart object writes apart.1

-- writes of distinct objects
pub distinct-once : (writes : List Write) → WritesOnce writes → IsDistinctWrites writes
unfolding IsDistinct
distinct-once [] once = tt
distinct-once (write ∷ writes) once = (own-apart write.0 writes once.0, distinct-once writes once.1)

over-cond : (b : Bool) (row : Option Row) (written : Option (Option Row)) (stood : Option Row) → over (cond b (Some row) written) stood ≡ cond b row (over written stood)
over-cond true row written stood = refl
over-cond false row written stood = refl

-- writes that differ in one object from others leave what these leave, with that object written
apply-more : (state : State) (writes more : List Write) (object : Object) (row : Option Row) → WritesOnce writes → WritesOnce more → ((p : Object) → own more p ≡ cond (same p object) (Some row) (own writes p)) → apply state more ≡ put (apply state writes) (object, row)
apply-more state writes more object row once once_more is = same_state _ _ (λ p.
    get-own more state p (distinct-once more once_more)
    ∙ ap (λ o. over o (get state p)) (is p)
    ∙ over-cond (same p object) row (own writes p) (get state p)
    ∙ ap (cond (same p object) row) (sym (get-own writes state p (distinct-once writes once)))
    ∙ sym (get-put (apply state writes) (object, row) p))

-- one more write in the place of an earlier one of its object
apply-set : (state : State) (writes : List Write) (object : Object) (row : Option Row) → WritesOnce writes → apply state (set writes object row) ≡ put (apply state writes) (object, row)
apply-set state writes object row once = apply-more state writes (set writes object row) object row once (once_set writes object row once) (sets_own writes object row).seen

-- a row that stands is put
put-same : (state : State) (object : Object) → put state (object, get state object) ≡ state
put-same state object = same_state _ _ (λ p.
    get-put state (object, get state object) p
    ∙ decided (same p object)
    (λ alike. ap (λ b. cond b (get state object) (get state p)) alike ∙ ap (get state) (sym (same_object p object alike)))
    (λ differs. ap (λ b. cond b (get state object) (get state p)) differs))

-- an object that was not written is noted with its row
apply-noted : (state : State) (writes : List Write) (object : Object) → WritesOnce writes → own writes object ≡ None → apply state (set writes object (get state object)) ≡ apply state writes
apply-noted state writes object once new =
    apply-set state writes object (get state object) once
    ∙ ap (λ row. put (apply state writes) (object, row)) (sym (get-own writes state object (distinct-once writes once) ∙ ap (λ o. over o (get state object)) new))
    ∙ put-same (apply state writes) object

-- a deletion of what does not stand is taken out
apply-less : (state : State) (writes less : List Write) (object : Object) → WritesOnce writes → WritesOnce less → ((p : Object) → own less p ≡ cond (same p object) None (own writes p)) → own writes object ≡ Some None → get state object ≡ None → apply state less ≡ apply state writes
apply-less state writes less object once once_less is gone none = same_state _ _ (λ p.
    get-own less state p (distinct-once less once_less)
    ∙ ap (λ o. over o (get state p)) (is p)
    ∙ decided (same p object)
    (λ alike. ap (λ b. over (cond b None (own writes p)) (get state p)) alike ∙ ap (get state) (same_object p object alike) ∙ none ∙ sym (ap (λ o. over o (get state p)) (ap (own writes) (same_object p object alike) ∙ gone)))
    (λ differs. ap (λ b. over (cond b None (own writes p)) (get state p)) differs)
    ∙ sym (get-own writes state p (distinct-once writes once)))

-- and what stays is of tables that are there
placed-less : (tables : ℕ) (writes less : List Write) (object : Object) → ((p : Object) → own less p ≡ cond (same p object) None (own writes p)) → ArePlaced tables writes → ArePlaced tables less
placed-less tables writes less object is are = placed-own tables less (λ p row e. by p row e (same p object) refl)
  where
    by : (p : Object) (row : Option Row) → own less p ≡ Some row → (b : Bool) → same p object ≡ b → p.0 < tables
    by p row e true alike =
        let none : None ≡ Some row = sym (is p ∙ ap (λ b. cond b None (own writes p)) alike) ∙ e in
        cc
    by p row e false differs = own-placed tables writes are p row (sym (is p ∙ ap (λ b. cond b None (own writes p)) differs) ∙ e)

-- writes one after another
pub apply-append : (state : State) (writes others : List Write) → apply state (writes ++ others) ≡ apply (apply state writes) others
apply-append state [] others = refl
apply-append state (write ∷ writes) others = apply-append (put state write) writes others

slice_get-append : {X : Type 0} (xs ys : List X) (i : ℕ) → i < length xs → slice_get (xs ++ ys) i ≡ slice_get xs i
slice_get-append [] ys i h = absurd (omega (arith, h))
slice_get-append (x ∷ xs) ys zero h = refl
slice_get-append (x ∷ xs) ys (suc i) h = slice_get-append xs ys i (omega (arith, h))

slice_get-push : {X : Type 0} (xs : List X) (x : X) → slice_get (xs ++ x ∷ []) (length xs) ≡ Some x
slice_get-push [] x = refl
slice_get-push (y ∷ xs) x = slice_get-push xs x

all-push : {X : Type 0} (P : X → Type 0) (xs : List X) (x : X) → AllByRecursion P xs → P x → AllByRecursion P (xs ++ x ∷ [])
all-push P [] x all here = (here, tt)
all-push P (y ∷ xs) x all here = (all.0, all-push P xs x all.1 here)

-- what is due at the places of some objects stays where more come behind them
due-more : (os more : List Object) (due : List (ℕ × Option Row)) → AllByRecursion (λ d. d.0 < length os) due → due_at (os ++ more) due ≡ due_at os due
due-more os more [] there = refl
due-more os more (d ∷ due) there =
    (λ i. option_map_or (λ object. (object, d.1) ∷ due-more os more due there.1 i) (slice_get-append os more d.0 there.0 i) (due-more os more due there.1 i))

there-more : (n m : ℕ) (due : List (ℕ × Option Row)) → n ≤ m → AllByRecursion (λ d. d.0 < n) due → AllByRecursion (λ d. d.0 < m) due
there-more n m [] less there = there
there-more n m (d ∷ due) less there = (omega (arith, there.0, less), there-more n m due less there.1)

-- one more is due
pub due-push : (os : List Object) (due : List (ℕ × Option Row)) (d : ℕ × Option Row) → due_at os (due ++ d ∷ []) ≡ due_at os due ++ due_at os (d ∷ [])
due-push os [] d = refl
due-push os (x ∷ due) d = by (slice_get os x.0) (due-push os due d)
  where
    by : (o : Option Object) → due_at os (due ++ d ∷ []) ≡ due_at os due ++ due_at os (d ∷ []) → option_map_or (λ object. (object, x.1) ∷ due_at os (due ++ d ∷ [])) o (due_at os (due ++ d ∷ [])) ≡ option_map_or (λ object. (object, x.1) ∷ due_at os due) o (due_at os due) ++ due_at os (d ∷ [])
    by None rest = rest
    by (Some object) rest = ap (λ ws. (object, x.1) ∷ ws) rest

-- and it is done behind the others
pub due-done : (state : State) (os : List Object) (due : List (ℕ × Option Row)) (place : ℕ) (row : Option Row) (object : Object) → slice_get os place ≡ Some object → apply state (due_at os (due ++ (place, row) ∷ [])) ≡ put (apply state (due_at os due)) (object, row)
due-done state os due place row object at =
    ap (apply state) (due-push os due (place, row))
    ∙ apply-append state (due_at os due) (due_at os ((place, row) ∷ []))
    ∙ ap (λ o. apply (apply state (due_at os due)) (option_map_or (λ object. (object, row) ∷ []) o [])) at

pub there-push : (os : List Object) (due : List (ℕ × Option Row)) (place : ℕ) (row : Option Row) (object : Object) → AllByRecursion (λ d. d.0 < length os) due → slice_get os place ≡ Some object → AllByRecursion (λ d. d.0 < length os) (due ++ (place, row) ∷ [])
there-push os due place row object there at = all-push (λ d. d.0 < length os) due (place, row) there (slice_get_within os place object at)

pub placed-objects : (tables : ℕ) (writes : List Write) → ArePlaced tables writes → AllByRecursion (λ o. o.0 < tables) (objects writes)
placed-objects tables [] are = tt
placed-objects tables (write ∷ writes) are = (are.0, placed-objects tables writes are.1)

pub objects-placed : (tables : ℕ) (writes : List Write) → AllByRecursion (λ o. o.0 < tables) (objects writes) → ArePlaced tables writes
objects-placed tables [] are = tt
objects-placed tables (write ∷ writes) are = (are.0, objects-placed tables writes are.1)

-- writes of the same objects are of tables that are there together
pub placed-alike : (tables : ℕ) (writes others : List Write) → objects others ≡ objects writes → ArePlaced tables writes → ArePlaced tables others
placed-alike tables writes others alike are =
    objects-placed tables others (subst (AllByRecursion (λ (o : Object). o.0 < tables)) (sym alike) (placed-objects tables writes are))

-- nothing is at a place at which nothing was found
pub past-none : {X : Type 0} (o : Option X) (i n : ℕ) → o ≡ None → (i < n → IsSome o) → n ≤ i
past-none o i n none found = elim (cases_lt i n) [ inl less ↦ none_there (n ≤ i) o none (found less) | inr past ↦ past ]

module _ {Z : Type 0} where
  objects-keys : (es : List (code_object.Object Z × Option Row)) → objects_of es ≡ map object_of (keys_of es)
  objects-keys [] = refl
  objects-keys (e ∷ es) = ap (λ os. object_of e.0 ∷ os) (objects-keys es)

  length-objects : (es : List (code_object.Object Z × Option Row)) → length (objects_of es) ≡ length es
  length-objects [] = refl
  length-objects (e ∷ es) = ap suc (length-objects es)

  key-at : (o : code_object.Object Z) (ks : List (code_object.Object Z)) (i : ℕ) → i < length ks → tied o (get_or ks i o) ≡ true → slice_get (map object_of ks) i ≡ Some (object_of o)
  key-at o [] i h found = absurd (omega (arith, h))
  key-at o (k ∷ ks) zero h found = ap Some (sym (same_object (object_of o) (object_of k) found))
  key-at o (k ∷ ks) (suc i) h found = key-at o ks i (omega (arith, h)) found

  -- the place that is found is that of the object
  pub at_place : (o : code_object.Object Z) (es : List (code_object.Object Z × Option Row)) (i : ℕ) → position (tied o) (keys_of es) ≡ Some i → slice_get (objects_of es) i ≡ Some (object_of o)
  at_place o es i found =
      let at = position-Some (tied o) (keys_of es) i o found in
      ap (λ os. slice_get os i) (objects-keys es) ∙ key-at o (keys_of es) i at.0 at.1

  object-at : (es : List (code_object.Object Z × Option Row)) (i : ℕ) (e : code_object.Object Z × Option Row) → slice_get es i ≡ Some e → slice_get (objects_of es) i ≡ Some (object_of e.0)
  object-at [] i e at = cc
  object-at (x ∷ es) zero e at = ap (option_map (λ (e : code_object.Object Z × Option Row). object_of e.0)) at
  object-at (x ∷ es) (suc i) e at = object-at es i e at

  there : (es : List (code_object.Object Z × Option Row)) (i : ℕ) → i < length es → (e : code_object.Object Z × Option Row) × (slice_get es i ≡ Some e)
  there [] i h = absurd (omega (arith, h))
  there (e ∷ es) zero h = (e, refl)
  there (e ∷ es) (suc i) h = there es i (omega (arith, h))

  -- nothing is due behind the end
  pub due-past : (es : List (code_object.Object Z × Option Row)) (i : ℕ) (row : Option Row) → length es ≤ i → due_writes es ((i, row) ∷ []) ≡ []
  due-past es i row past =
      let length_same = length-objects es in
      ap (λ o. option_map_or (λ object. (object, row) ∷ []) o []) (slice_get_past (objects_of es) i (omega (arith, past, length_same)))

module _ {Z S : Type 0} where
  -- entries of distinct keys write nothing twice
  once : (m : IndexMap (code_object.Object Z) (Option Row) S) → IsUnique tied m → WritesOnce (writes_of m.entries)
  once m unique = objects-IsDistinct m.entries unique

  -- an update of a map is one of the own writes
  own-updated : (m n : IndexMap (code_object.Object Z) (Option Row) S) (k : code_object.Object Z) (w : Option (Option Row)) → ((q : code_object.Object Z) → lookup (tied q) n.entries ≡ cond (tied k q) w (lookup (tied q) m.entries))
      → (p : Object) → own (writes_of n.entries) p ≡ cond (same p (object_of k)) w (own (writes_of m.entries) p)
  own-updated m n k w is p =
      let q = code_of {Z = Z} p in
      subst (λ o. own (writes_of n.entries) o ≡ cond (same o (object_of k)) w (own (writes_of m.entries) o)) q.1
      (own-writes_of q.0.now n.entries ∙ is q.0.now ∙ (λ i. cond ((eq_by_cmp_equiv object_cmp_total).symm (object_of k) (object_of q.0.now) i) w (sym (own-writes_of q.0.now m.entries) i)))

  -- the row at a place is set: what is due there is done
  pub set-done : (m : IndexMap (code_object.Object Z) (Option Row) S) (i : ℕ) (row : Option Row) → IsUnique tied m → i < length m.entries → (state : State)
      → apply state (writes_of (set_value_at m.entries i row)) ≡ apply (apply state (writes_of m.entries)) (due_writes m.entries ((i, row) ∷ []))
  set-done m i row unique h state =
      let e = there m.entries i h in
      let n = with_value_at m i row in
      let updates = updates-with_value_at m i row (on_equiv object_of object_same_equiv) unique e.0.0 e.0.1 e.1 in
      let unique_too : IsUnique tied n = subst (IsDistinct tied) (sym (keys-with_value_at m i row)) unique in
      apply-more state (writes_of m.entries) (writes_of n.entries) (object_of e.0.0) row (once m unique) (once n unique_too) (own-updated m n e.0.0 (Some row) updates.0)
      ∙ sym (ap (λ o. apply (apply state (writes_of m.entries)) (option_map_or (λ object. (object, row) ∷ []) o [])) (object-at m.entries i e.0 e.1))

  -- and the objects stay
  pub set-objects : (m : IndexMap (code_object.Object Z) (Option Row) S) (i : ℕ) (row : Option Row) → objects_of (set_value_at m.entries i row) ≡ objects_of m.entries
  set-objects m i row =
      objects-keys (set_value_at m.entries i row) ∙ ap (map object_of) (keys-with_value_at m i row) ∙ sym (objects-keys m.entries)

  -- an object that was not written comes in behind the others
  module _ (m : IndexMap (code_object.Object Z) (Option Row) S) (news : List (code_object.Object Z × Option Row)) (o copy : code_object.Object Z) (row : Option Row)
      (is : news ≡ insert_entry tied m.entries copy row) (alike : copy ≡ o) (none : false ≡ is_some (lookup (tied o) m.entries)) (unique : IsUnique tied m) where
    new : own (writes_of m.entries) (object_of o) ≡ None
    new = own_absent o m.entries (writes_of m.entries) refl none

    written : writes_of news ≡ set (writes_of m.entries) (object_of o) row
    written = ap writes_of is ∙ ap (λ k. writes_of (insert_entry tied m.entries k row)) alike ∙ set-writes_of o row m.entries

    -- with its row, so that the state stays
    pub new-same : (state : State) → row ≡ get state (object_of o) → apply state (writes_of news) ≡ apply state (writes_of m.entries)
    new-same state stands =
        ap (apply state) written
        ∙ ap (λ r. apply state (set (writes_of m.entries) (object_of o) r)) stands
        ∙ apply-noted state (writes_of m.entries) (object_of o) (once m unique) new

    pub new-placed : (tables : ℕ) → ArePlaced tables (writes_of m.entries) → (object_of o).0 < tables → ArePlaced tables (writes_of news)
    new-placed tables are here = subst (ArePlaced tables) (sym written) (placed_set tables (writes_of m.entries) (object_of o) row are here)

    more : objects_of news ≡ objects_of m.entries ++ object_of o ∷ []
    more =
        ap objects written ∙ (sets_own (writes_of m.entries) (object_of o) row).places
        ∙ ap (λ r. cond (is_some r) (objects_of m.entries) (objects_of m.entries ++ object_of o ∷ [])) new

    pub new-place : (place : ℕ) → place ≡ length m.entries → slice_get (objects_of news) place ≡ Some (object_of o)
    new-place place at =
        ap (λ os. slice_get os place) more
        ∙ ap (slice_get (objects_of m.entries ++ object_of o ∷ [])) (at ∙ sym (length-objects m.entries))
        ∙ slice_get-push (objects_of m.entries) (object_of o)

    -- and what is due elsewhere stays due
    pub new-kept : (due : List (ℕ × Option Row)) → AreThere m.entries due → AreThere news due × (due_writes news due ≡ due_writes m.entries due)
    new-kept due are =
        let longer : length (objects_of news) ≡ length (objects_of m.entries) + 1 = ap length more ∙ length_push (objects_of m.entries) (object_of o) in
        (there-more (length (objects_of m.entries)) (length (objects_of news)) due (omega (arith, longer)) are, ap (λ os. due_at os due) more ∙ due-more (objects_of m.entries) (object_of o ∷ []) due are)

  -- an object that is gone is taken out
  pub gone-same : (state : State) (m n : IndexMap (code_object.Object Z) (Option Row) S) (o : code_object.Object Z) → IsUnique tied m → IsUnique tied n → ((q : code_object.Object Z) → lookup (tied q) n.entries ≡ cond (tied o q) None (lookup (tied q) m.entries))
      → lookup (tied o) m.entries ≡ Some None → get state (object_of o) ≡ None → apply state (writes_of n.entries) ≡ apply state (writes_of m.entries)
  gone-same state m n o unique unique_too is noted none =
      apply-less state (writes_of m.entries) (writes_of n.entries) (object_of o) (once m unique) (once n unique_too) (own-updated m n o None is) (own-writes_of o m.entries ∙ noted) none

  pub gone-placed : (tables : ℕ) (m n : IndexMap (code_object.Object Z) (Option Row) S) (o : code_object.Object Z) → ((q : code_object.Object Z) → lookup (tied q) n.entries ≡ cond (tied o q) None (lookup (tied q) m.entries)) → ArePlaced tables (writes_of m.entries) → ArePlaced tables (writes_of n.entries)
  gone-placed tables m n o is = placed-less tables (writes_of m.entries) (writes_of n.entries) (object_of o) (own-updated m n o None is)
