-- What questions ask for, what they are answered, and what a transaction sees through its own writes: the laws in full.
use Rattle.std.specs.Prelude.{◌≡◌, ◌≢◌, ◌↔◌, ℕ, true, false, List, [], ◌∷◌, ◌++◌, map, cond, is_some, Option, None, Some, Contains, Any, AllPairs, fold}
use Rattle.std.specs.List.Sorted.{IsStrictlySortedBy}
use Rattle.std.specs.Ordering.{eq_by_cmp}
use Rattle.std.specs.FinMap.{get}
use Rattle.occ_types.specs.Key.{Key, key_cmp}
use Rattle.occ_types.specs.Object.{Object, object_cmp}
use Rattle.occ_types.specs.Question.{Question, One, Span, asks, InRange}
use Rattle.occ_types.specs.Row.{Row}
use Rattle.occ_model.specs.State.{State, Write, Rows, answer, apply, meets_reads, meets_writes}
use Rattle.occ_model.specs.Overlay.{set, own, overlay}

-- a question for one key asks for that key of its table, and for nothing else
abbrev pub AsksOne : Type 0
AsksOne = (table place : ℕ) (key other : Key) → (asks (One table key) (place, other) ≡ true) ↔ ((place ≡ table) × (other ≡ key))

-- a range asks for the keys of its table from its lower end on and below its upper end, and for nothing else
abbrev pub AsksRange : Type 0
AsksRange = (table place : ℕ) (lower upper : Option Key) (key : Key) → (asks (Span table lower upper) (place, key) ≡ true) ↔ ((place ≡ table) × InRange lower upper key)

-- What a range is answered: rows in the strict order of their keys, and so none twice; and of all keys and rows just those that are in the range and in the table.
pub record IsRangeAnswer (state : State) (table : ℕ) (lower upper : Option Key) (rows : List (Key × Row)) : Type 0 where
  pub answered : answer (Span table lower upper) state ≡ Rows rows
  pub in_order : IsStrictlySortedBy key_cmp (map (λ e. e.0) rows)
  pub exactly : (key : Key) (row : Row) → Contains rows (key, row) ↔ (InRange lower upper key × (get state (table, key) ≡ Some row))

-- each range is answered by such rows
abbrev pub AnswersRange : Type 0
AnswersRange = (state : State) (table : ℕ) (lower upper : Option Key) → (rows : List (Key × Row)) × IsRangeAnswer state table lower upper rows

-- writes meet reads just where some write is of an object that some question asks for
abbrev pub MeetsReads : Type 0
MeetsReads = (writes : List Write) (reads : List Question) → (meets_reads writes reads ≡ true) ↔ Any (λ write. Any (λ question. asks question write.0 ≡ true) reads) writes

-- writes meet writes just where some object is written by both
abbrev pub MeetsWrites : Type 0
MeetsWrites = (writes others : List Write) → (meets_writes writes others ≡ true) ↔ Any (λ write. Any (λ other. write.0 ≡ other.0) others) writes

-- no object is written twice
abbrev pub IsDistinctWrites : List Write → Type 0
IsDistinctWrites [] = Unit {0}
IsDistinctWrites (write ∷ writes) = (own writes write.0 ≡ None) × IsDistinctWrites writes

-- that definition in std's words: of any two writes the objects differ
abbrev pub DistinctWrites : Type 0
DistinctWrites = (writes : List Write) → IsDistinctWrites writes ↔ AllPairs (λ earlier later. earlier.0 ≢ later.0) writes

-- the objects written, in the order of the writes
abbrev pub objects : List Write → List Object
objects writes = map (λ write. write.0) writes

-- What setting one write does to the own writes: that object now has this row, and every other object what it had; the objects keep their places, and a new one goes last; no object comes to be written twice.
pub record IsSet (writes : List Write) (object : Object) (row : Option Row) : Type 0 where
  pub seen : (other : Object) → own (set writes object row) other ≡ cond (eq_by_cmp object_cmp other object) (Some row) (own writes other)
  pub places : objects (set writes object row) ≡ cond (is_some (own writes object)) (objects writes) (objects writes ++ object ∷ [])
  pub distinct : IsDistinctWrites writes → IsDistinctWrites (set writes object row)

-- each write is set so
abbrev pub SetsOwn : Type 0
SetsOwn = (writes : List Write) (object : Object) (row : Option Row) → IsSet writes object row

-- writes set one after another, from none on
abbrev pub set_all : List Write → List Write
set_all writes = fold (λ so_far write. set so_far write.0 write.1) [] writes

-- they write no object twice, and leave at each object what the writes as they came would leave
abbrev pub SetsAll : Type 0
SetsAll = (writes : List Write) → IsDistinctWrites (set_all writes) × ((state : State) → apply state (set_all writes) ≡ apply state writes)

-- what a transaction sees, its own writes over the table's answer, is what the table would answer once these writes were done
abbrev pub OverlaysAnswer : Type 0
OverlaysAnswer = (question : Question) (writes : List Write) (state : State) → IsDistinctWrites writes → overlay question writes (answer question state) ≡ answer question (apply state writes)

-- a write of what a question doesn't ask for is not seen by it
abbrev pub UnaskedUnseen : Type 0
UnaskedUnseen = (question : Question) (writes : List Write) (object : Object) (row : Option Row) (state : State) → IsDistinctWrites writes → asks question object ≡ false
    → overlay question (set writes object row) (answer question state) ≡ overlay question writes (answer question state)
