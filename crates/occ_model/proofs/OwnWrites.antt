-- The laws of own writes: what is set, and what a transaction sees over a table.
use Rattle.std.proofs.Common.{◌≡◌, ◌≢◌, ℕ, zero, suc, ◌<◌, Bool, true, false, cond, List, [], ◌∷◌, ◌++◌, map, length, is_some, Option, None, Some, AllPairs, fold, get_or, refl, sym, ap, ◌∙◌, le_of_suc-le-suc, suc-le-suc, arith}
use Rattle.std.specs.Cmp.{eq_by_cmp_equiv}
use Rattle.std.specs.FinMap.{get, entries, find, get-entries, get-from_entries}
use Rattle.occ_types.specs.Key.{Key}
use Rattle.occ_types.specs.Object.{Object, object_cmp, object_cmp_total}
use Rattle.occ_types.specs.Question.{Question, One, Span, asks}
use Rattle.occ_types.specs.Row.{Row}
use Rattle.occ_model.specs.State.{State, Write, Answer, Found, Rows, answer, put, apply}
use Rattle.occ_model.specs.Overlay.{set, own, rows_of}
use Rattle.occ_model.specs.RangeLaws.{IsDistinctWrites, DistinctWrites, objects, SetsOwn, SetsAll, OverlaysAnswer, UnaskedUnseen}
use Rattle.occ_model.proofs.Tests.{clash, decided}
use Rattle.occ_model.proofs.States.{same, same_object, get-put, same_state}
use Rattle.occ_model.proofs.RangeAnswers.{same_itself, same_of_equal, EntryList, AllIn, rows_in, part, get_part, part_in_table}

-- Own writes.

-- of two tests that are the same the second is never reached
shadowed : {A : Type 0} (a : Bool) (x y z : A) → cond a x z ≡ cond a x (cond a y z)
shadowed true x y z = refl
shadowed false x y z = refl

-- two tests change places where they don't both hold, or give one result
exchanged : {A : Type 0} (a b : Bool) (x y z : A) → (a ≡ true → b ≡ true → x ≡ y) → cond a x (cond b y z) ≡ cond b y (cond a x z)
exchanged true true x y z e = e refl refl
exchanged true false x y z e = refl
exchanged false b x y z e = refl

-- what is seen after a write was set
set_seen : (writes : List Write) (object : Object) (row : Option Row) (other : Object) → own (set writes object row) other ≡ cond (same other object) (Some row) (own writes other)
set_seen [] object row other = refl
set_seen (write ∷ writes) object row other = go (same object write.0) refl (set_seen writes object row other)
  where
    go : (b : Bool) → same object write.0 ≡ b → own (set writes object row) other ≡ cond (same other object) (Some row) (own writes other)
        → own (cond b ((write.0, row) ∷ writes) (write ∷ set writes object row)) other ≡ cond (same other object) (Some row) (own (write ∷ writes) other)
    go true t later =
        ap (λ o. cond (same other o) (Some row) (own writes other)) (sym (same_object object write.0 t))
        ∙ shadowed (same other object) (Some row) (Some write.1) (own writes other)
        ∙ ap (λ o. cond (same other object) (Some row) (cond (same other o) (Some write.1) (own writes other))) (same_object object write.0 t)
    go false f later = ap (cond (same other write.0) (Some write.1)) later
        ∙ exchanged (same other write.0) (same other object) (Some write.1) (Some row) (own writes other)
        (λ p q. clash (same object write.0) (same_of_equal object write.0 (sym (same_object other object q) ∙ same_object other write.0 p)) f)

-- the objects keep their places, and a new one goes last
set_places : (writes : List Write) (object : Object) (row : Option Row) → objects (set writes object row) ≡ cond (is_some (own writes object)) (objects writes) (objects writes ++ object ∷ [])
set_places [] object row = refl
set_places (write ∷ writes) object row = go (same object write.0) (set_places writes object row)
  where
    pushed : (b : Bool) → objects (set writes object row) ≡ cond b (objects writes) (objects writes ++ object ∷ []) → write.0 ∷ objects (set writes object row) ≡ cond b (write.0 ∷ objects writes) (write.0 ∷ (objects writes ++ object ∷ []))
    pushed true e = ap (λ os. write.0 ∷ os) e
    pushed false e = ap (λ os. write.0 ∷ os) e

    go : (b : Bool) → objects (set writes object row) ≡ cond (is_some (own writes object)) (objects writes) (objects writes ++ object ∷ [])
        → objects (cond b ((write.0, row) ∷ writes) (write ∷ set writes object row))
        ≡ cond (is_some (cond b (Some write.1) (own writes object))) (write.0 ∷ objects writes) (write.0 ∷ (objects writes ++ object ∷ []))
    go true later = refl
    go false later = pushed (is_some (own writes object)) later

-- no object comes to be written twice
set_distinct : (writes : List Write) (object : Object) (row : Option Row) → IsDistinctWrites writes → IsDistinctWrites (set writes object row)
set_distinct [] object row distinct = (refl, tt)
set_distinct (write ∷ writes) object row distinct = go (same object write.0) refl (set_distinct writes object row distinct.1)
  where
    go : (b : Bool) → same object write.0 ≡ b → IsDistinctWrites (set writes object row) → IsDistinctWrites (cond b ((write.0, row) ∷ writes) (write ∷ set writes object row))
    go true t later = distinct
    go false f later =
        (set_seen writes object row write.0 ∙ ap (λ b. cond b (Some row) (own writes write.0)) ((eq_by_cmp_equiv object_cmp_total).symm write.0 object ∙ f) ∙ distinct.0, later)

-- the three together
pub sets_own : SetsOwn
sets_own writes object row = record { seen = set_seen writes object row; places = set_places writes object row; distinct = set_distinct writes object row }

-- What a transaction sees.

-- an own write, and else what stands in the table
abbrev over : Option (Option Row) → Option Row → Option Row
over None row = row
over (Some own_row) row = own_row

-- writes leave at each object the own write of it
get-apply : (writes : List Write) (state : State) (object : Object) → IsDistinctWrites writes → get (apply state writes) object ≡ over (own writes object) (get state object)
get-apply [] state object distinct = refl
get-apply (write ∷ writes) state object distinct =
    get-apply writes (put state write) object distinct.1 ∙ ap (over (own writes object)) (get-put state write object) ∙ go (same object write.0) refl
  where
    go : (b : Bool) → same object write.0 ≡ b → over (own writes object) (cond b write.1 (get state object)) ≡ over (cond b (Some write.1) (own writes object)) (get state object)
    go true t = ap (λ o. over o write.1) (ap (own writes) (same_object object write.0 t) ∙ distinct.0)
    go false f = refl

-- what a question sees of two states is alike
abbrev Alike : Question → State → State → Type 0
Alike question s t = (object : Object) → cond (asks question object) (get s object) None ≡ cond (asks question object) (get t object) None

-- a write keeps what is seen of two states alike
written_alike : (a b : Bool) (x y z : Option Row) → cond a y None ≡ cond a z None → cond a (cond b x y) None ≡ cond a (cond b x z) None
written_alike a true x y z e = refl
written_alike a false x y z e = e

-- so does it for whole states
alike_put : (question : Question) (s t : State) (write : Write) → Alike question s t → Alike question (put s write) (put t write)
alike_put question s t write alike object =
    ap (λ x. cond (asks question object) x None) (get-put s write object)
    ∙ written_alike (asks question object) (same object write.0) write.1 (get s object) (get t object) (alike object)
    ∙ sym (ap (λ x. cond (asks question object) x None) (get-put t write object))

-- and so do writes, one after another
alike_apply : (question : Question) (writes : List Write) (s t : State) → Alike question s t → Alike question (apply s writes) (apply t writes)
alike_apply question [] s t alike = alike
alike_apply question (write ∷ writes) s t alike = alike_apply question writes (put s write) (put t write) (alike_put question s t write alike)

-- states that are alike for a question answer it alike
alike_answer : (question : Question) (s t : State) → Alike question s t → answer question s ≡ answer question t
unfolding answer asks
alike_answer (One table key) s t alike =
    let object : Object = (table, key) in
    ap Found (sym (ap (λ b. cond b (get s object) None) (same_itself object)) ∙ alike object ∙ ap (λ b. cond b (get t object) None) (same_itself object))
alike_answer (Span table lower upper) s t alike =
    ap (λ m. Rows (rows_in (entries m)))
    (same_state (part s (Span table lower upper)) (part t (Span table lower upper))
    (λ object. get_part s (Span table lower upper) object ∙ alike object ∙ sym (get_part t (Span table lower upper) object)))

-- rows under their keys, put under their table again, are the entries
entries_again : (table : ℕ) (es : EntryList) → AllIn table es → map (λ (e : Key × Row). ((table, e.0), e.1)) (rows_in es) ≡ es
entries_again table [] inside = refl
entries_again table (e ∷ es) inside = λ i. ((sym inside.0 i, e.0.1), e.1) ∷ entries_again table es inside.1 i

-- a test made twice is made once
cond_twice : (b : Bool) (x : Option Row) → cond b (cond b x None) None ≡ cond b x None
cond_twice true x = refl
cond_twice false x = refl

-- the rows of an answer alone are alike to the state for its range
alike_rows : (table : ℕ) (lower upper : Option Key) (state : State) → Alike (Span table lower upper) (rows_of table (rows_in (entries (part state (Span table lower upper))))) state
alike_rows table lower upper state object =
    let question : Question = Span table lower upper in
    let m = part state question in
    ap (λ x. cond (asks question object) x None)
    (get-from_entries object_cmp_total (map (λ (e : Key × Row). ((table, e.0), e.1)) (rows_in (entries m))) object
    ∙ ap (find object_cmp object) (entries_again table (entries m) (part_in_table state table lower upper))
    ∙ sym (get-entries m object) ∙ get_part state question object)
    ∙ cond_twice (asks question object) (get state object)

-- the answer to one key with the own write over it
overlaid : (own_row : Option (Option Row)) (row : Option Row) → elim own_row as (λ _. Answer) [ None ↦ Found row | Some mine ↦ Found mine ] ≡ Found (over own_row row)
overlaid None row = refl
overlaid (Some mine) row = refl

-- what is seen is what the table would answer
pub overlays_answer : OverlaysAnswer
unfolding answer
overlays_answer (One table key) writes state distinct =
    overlaid (own writes (table, key)) (get state (table, key)) ∙ ap Found (sym (get-apply writes state (table, key) distinct))
overlays_answer (Span table lower upper) writes state distinct =
    alike_answer (Span table lower upper) (apply (rows_of table (rows_in (entries (part state (Span table lower upper))))) writes) (apply state writes)
    (alike_apply (Span table lower upper) writes (rows_of table (rows_in (entries (part state (Span table lower upper))))) state (alike_rows table lower upper state))

-- under a test that an object doesn't pass, what is set there is not seen
outside : (a b : Bool) (x y : Option Row) → (a ≡ true → b ≡ false) → cond a (cond b x y) None ≡ cond a y None
outside true true x y e = clash true refl (e refl)
outside true false x y e = refl
outside false b x y e = refl

-- an own write that was set is what is seen
over_set : (b : Bool) (row : Option Row) (o : Option (Option Row)) (x : Option Row) → over (cond b (Some row) o) x ≡ cond b row (over o x)
over_set true row o x = refl
over_set false row o x = refl

-- a write set is a write done last
get-apply_set : (writes : List Write) (object : Object) (row : Option Row) (state : State) (other : Object) → IsDistinctWrites writes
    → get (apply state (set writes object row)) other ≡ cond (same other object) row (get (apply state writes) other)
get-apply_set writes object row state other distinct =
    get-apply (set writes object row) state other (set_distinct writes object row distinct)
    ∙ ap (λ o. over o (get state other)) (set_seen writes object row other)
    ∙ over_set (same other object) row (own writes other) (get state other)
    ∙ ap (cond (same other object) row) (sym (get-apply writes state other distinct))

-- what a question doesn't ask for it doesn't see
pub unasked_unseen : UnaskedUnseen
unasked_unseen question writes object row state distinct unasked =
    overlays_answer question (set writes object row) state (set_distinct writes object row distinct)
    ∙ alike_answer question (apply state (set writes object row)) (apply state writes)
    (λ other. ap (λ x. cond (asks question other) x None) (get-apply_set writes object row state other distinct)
    ∙ outside (asks question other) (same other object) row (get (apply state writes) other)
    (λ inside. decided (same other object) (λ t. clash (asks question other) inside (ap (asks question) (same_object other object t) ∙ unasked)) (λ f. f)))
    ∙ sym (overlays_answer question writes state distinct)

-- setting a write is doing it last
apply-set : (writes : List Write) (write : Write) (state : State) → IsDistinctWrites writes → apply state (set writes write.0 write.1) ≡ put (apply state writes) write
apply-set writes write state distinct = same_state (apply state (set writes write.0 write.1)) (put (apply state writes) write)
    (λ other. get-apply_set writes write.0 write.1 state other distinct ∙ sym (get-put (apply state writes) write other))

-- the same from writes that are set already
set_on : (writes so_far : List Write) → IsDistinctWrites so_far
    → IsDistinctWrites (fold (λ ws (w : Write). set ws w.0 w.1) so_far writes)
    × ((state : State) → apply state (fold (λ ws (w : Write). set ws w.0 w.1) so_far writes) ≡ apply (apply state so_far) writes)
set_on [] so_far distinct = (distinct, λ state. refl)
set_on (write ∷ writes) so_far distinct =
    let later = set_on writes (set so_far write.0 write.1) (set_distinct so_far write.0 write.1 distinct) in
    (later.0, λ state. later.1 state ∙ ap (λ s. apply s writes) (apply-set so_far write state distinct))

-- writes set from none on are distinct, and do what they do one by one
pub sets_all : SetsAll
sets_all writes = set_on writes [] tt

-- No object twice, in std's words.

-- a row that is there is not missing
some_not_none : {row : Option Row} → Some row ≡ None → ⊥
some_not_none e = cc

-- a test that found nothing passed the first write by
passed_by : (b : Bool) (row : Option Row) (others : Option (Option Row)) → cond b (Some row) others ≡ None → others ≡ None
passed_by true row others e = cc
passed_by false row others e = e

-- an object has no own write just where no write is of it
own_none : (writes : List Write) (object : Object) → own writes object ≡ None → (k : ℕ) (d : Write) → k < length writes → object ≢ (get_or writes k d).0
own_none [] object none k d h = absurd (omega arith)
own_none (write ∷ writes) object none zero d h = λ is. some_not_none (sym (ap (λ b. cond b (Some write.1) (own writes object)) (same_of_equal object write.0 is)) ∙ none)
own_none (write ∷ writes) object none (suc k) d h = own_none writes object (passed_by (same object write.0) write.1 (own writes object) none) k d (le_of_suc-le-suc h)

-- and the other way round
none_own : (writes : List Write) (object : Object) → ((k : ℕ) (d : Write) → k < length writes → object ≢ (get_or writes k d).0) → own writes object ≡ None
none_own [] object apart = refl
none_own (write ∷ writes) object apart =
    ap (λ b. cond b (Some write.1) (own writes object)) (decided (same object write.0) (λ t. absurd (apart 0 write (omega arith) (same_object object write.0 t))) (λ f. f))
    ∙ none_own writes object (λ k d h. apart (suc k) d (suc-le-suc h))

-- distinct writes differ pair by pair
to_pairs : (writes : List Write) → IsDistinctWrites writes → AllPairs (λ (a b : Write). a.0 ≢ b.0) writes
to_pairs [] distinct i j d l h = absurd (omega arith)
to_pairs (write ∷ writes) distinct i zero d l h = absurd (omega arith)
to_pairs (write ∷ writes) distinct zero (suc j) d l h = own_none writes write.0 distinct.0 j d (le_of_suc-le-suc h)
to_pairs (write ∷ writes) distinct (suc i) (suc j) d l h = to_pairs writes distinct.1 i j d (le_of_suc-le-suc l) (le_of_suc-le-suc h)

-- and writes that differ pair by pair are distinct
of_pairs : (writes : List Write) → AllPairs (λ (a b : Write). a.0 ≢ b.0) writes → IsDistinctWrites writes
of_pairs [] apart = tt
of_pairs (write ∷ writes) apart = (
  none_own writes write.0 (λ k d h. apart 0 (suc k) d (omega arith) (suc-le-suc h)),
  of_pairs writes (λ i j d l h. apart (suc i) (suc j) d (suc-le-suc l) (suc-le-suc h)),
)

-- both together
pub distinct_writes : DistinctWrites
distinct_writes writes = (to_pairs writes, of_pairs writes)
