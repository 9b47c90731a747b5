-- What is kept of the rows that are put, and how it brings them back.
use Rattle.std.proofs.Common.{◌≡◌, ◌<◌, ℕ, cond, List, [], ◌∷◌, ◌++◌, length, Option, None, Some, IsSome, true≢false, refl, sym, ap, subst, ◌∙◌, arith, Bor, slice_index_or, is_eq}
use Rattle.occ_book.proofs.Common.{map-append, slice_get_read, tied_itself, Key, Object, object_cmp_total, Row, object_of, State, Write, put, same, same_object, same_state, get-put, decided, Content, content_of, Replaced, kept_write, kept_writes}
use Rattle.std.specs.FinMap as finite
use Rattle.occ_book.specs.Table.{row_under}
use Rattle.occ_types.specs.declared.objects.Object as code_object
use Rattle.occ_book.proofs.Views.{row-found}

-- a table has at a key what the tables have at the object
pub table-has : (tables : List (List (Key × Row))) (t : ℕ) (rows : List (Key × Row)) (key : Key) (old : Content) → content_of tables ≡ old → t < old.tables → rows ≡ slice_index_or tables t rows → row_under rows key ≡ finite.get old.state (t, key)
table-has tables t rows key old view h at =
    let inside : t < length tables = subst (λ (c : Content). t < c.tables) (sym view) h in
    row-found tables t key old (Some rows) view (slice_get_read tables (length tables) t rows refl inside at)

-- nothing stands where there is none
pub none_there : {X : Type 0} (P : Type 0) (o : Option X) → o ≡ None → IsSome o → P
none_there P o e h = absurd (true≢false (sym (subst IsSome e h)))

-- a row stands where one was put
stands : (before : State) (object : Object) (row : Row) → IsSome (finite.get (put before (object, Some row)) object)
stands before object row =
    let found : finite.get (put before (object, Some row)) object ≡ Some row = get-put before (object, Some row) object
    ∙ ap (λ b. cond b (Some row) (finite.get before object)) (ap is_eq (tied_itself object_cmp_total object)) in
    subst IsSome (sym found) refl

-- what stood at an object, brought back after another row was put there
brought_back : (before : State) (object : Object) (row : Row) (was : Option Row) → was ≡ finite.get before object → put (put before (object, Some row)) (object, was) ≡ before
brought_back before object row was is = same_state _ _ (λ at.
    get-put (put before (object, Some row)) (object, was) at
    ∙ decided (same at object)
    (λ e. ap (λ b. cond b was (finite.get (put before (object, Some row)) at)) e ∙ is ∙ ap (finite.get before) (sym (same_object at object e)))
    (λ e. ap (λ b. cond b was (finite.get (put before (object, Some row)) at)) e ∙ get-put before (object, Some row) at ∙ ap (λ b. cond b (Some row) (finite.get before at)) e))

-- one more row is put, and what it replaces kept
pub Replaced-push : (old : State) (kept : List Write) (now : State) (object : Object) (was : Option Row) (row : Row) → was ≡ finite.get now object → Replaced old kept now → Replaced old (kept ++ (object, was) ∷ []) (put now (object, Some row))
Replaced-push old [] now object was row is done =
    (is ∙ ap (λ s. finite.get s object) done, row, ap (λ s. put s (object, Some row)) done)
Replaced-push old (first ∷ kept) now object was row is done =
    (done.0, done.1, Replaced-push (put old (first.0, Some done.1)) kept now object was row is done.2)

-- the latest row that was put, and the state before it
record Latest (old : State) (kept : List Write) (was : Write) (now : State) : Type 0 where
  before : State
  row : Row
  replaced : Replaced old kept before
  stood : was.1 ≡ finite.get before was.0
  after : now ≡ put before (was.0, Some row)

latest : (old : State) (kept : List Write) (was : Write) (now : State) → Replaced old (kept ++ was ∷ []) now → Latest old kept was now
latest old [] was now done = record { before = old; row = done.1; replaced = refl; stood = done.0; after = done.2 }
latest old (first ∷ kept) was now done =
    let l = latest (put old (first.0, Some done.1)) kept was now done.2 in
    record { before = l.before; row = l.row; replaced = (done.0, done.1, l.replaced); stood = l.stood; after = l.after }

-- the latest row is taken back
pub Replaced-pop : (old : State) (kept : List Write) (was : Write) (now new : State) → (IsSome (finite.get now was.0) → new ≡ put now was) → Replaced old (kept ++ was ∷ []) now → Replaced old kept new
Replaced-pop old kept was now new back done =
    let l = latest old kept was now done in
    let there : IsSome (finite.get now was.0) = subst (λ s. IsSome (finite.get s was.0)) (sym l.after) (stands l.before was.0 l.row) in
    let is : new ≡ l.before = back there ∙ ap (λ s. put s was) l.after ∙ brought_back l.before was.0 l.row was.1 l.stood in
    subst (Replaced old kept) (sym is) l.replaced

module _ {Z : Type 0} where
  -- one more row is put, and what it replaces kept behind the others
  pub kept-more : (start old new : State) (olds room news : List (Bor (code_object.Object Z) × Option Row)) (object : Bor (code_object.Object Z)) (was : Option Row) (row : Row)
      → room ≡ olds → news ≡ room ++ (object, was) ∷ [] → was ≡ finite.get old (object_of object.now) → new ≡ put old (object_of object.now, Some row)
      → Replaced start (kept_writes olds) old → Replaced start (kept_writes news) new
  kept-more start old new olds room news object was row same_items more is after done =
      let all : kept_writes news ≡ kept_writes olds ++ kept_write (object, was) ∷ [] =
      ap kept_writes (more ∙ ap (λ es. es ++ (object, was) ∷ []) same_items) ∙ map-append kept_write olds ((object, was) ∷ []) in
      let put_there = Replaced-push start (kept_writes olds) old (object_of object.now) was row is done in
      subst (Replaced start (kept_writes news)) (sym after) (subst (λ ws. Replaced start ws (put old (object_of object.now, Some row))) (sym all) put_there)

  -- the latest row that was kept is brought back
  pub kept-less : (start now new : State) (olds news : List (Bor (code_object.Object Z) × Option Row)) (object : Bor (code_object.Object Z)) (was : Option Row)
      → olds ≡ news ++ (object, was) ∷ [] → (IsSome (finite.get now (object_of object.now)) → new ≡ put now (object_of object.now, was))
      → Replaced start (kept_writes olds) now → Replaced start (kept_writes news) new
  kept-less start now new olds news object was split back done =
      let all : kept_writes olds ≡ kept_writes news ++ kept_write (object, was) ∷ [] = ap kept_writes split ∙ map-append kept_write news ((object, was) ∷ []) in
      Replaced-pop start (kept_writes news) (kept_write (object, was)) now new back (subst (λ ws. Replaced start ws now) all done)

  -- where nothing is kept, nothing was put
  pub kept-none : (start now : State) (kept : List (Bor (code_object.Object Z) × Option Row)) → length kept ≡ 0 → Replaced start (kept_writes kept) now → now ≡ start
  kept-none start now [] none done = done
  kept-none start now (e ∷ kept) none done = absurd (omega arith)
