-- The state of the table, what it answers, and writes.
use Rattle.std.specs.Prelude.{ℕ, Bool, false, ◌||◌, List, [], ◌∷◌, map, length, Option, None, Some}
use Rattle.std.specs.FinMap.{FinMap, get, insert, remove, retain_keys, entries}
use Rattle.occ_types.specs.Key.{Key}
use Rattle.occ_types.specs.Object.{Object, object_cmp}
use Rattle.occ_types.specs.Question.{Question, One, Span, asks}
use Rattle.occ_types.specs.Row.{Row}

-- a row under each object that is there (Kung and Robinson, section 2, with rows for their objects)
abbrev pub State : Type 0
State = FinMap object_cmp Row

-- an object with its new row, or with none where it is deleted (Kung and Robinson, section 2; deletion is our own choice)
abbrev pub Write : Type 0
Write = Object × Option Row

-- what a question is answered: to One its row or none, to Span the keys and rows of its range, in the order of the keys (our own choice)
pub data Answer : Type 0 where
  Found : Option Row → Answer
  Rows : List (Key × Row) → Answer

unfoldable pub answer : Question → State → Answer
answer (One table key) state = Found (get state (table, key))
answer (Span table lower upper) state =
    Rows (map (λ e. (e.0.1, e.1)) (entries (retain_keys state (asks (Span table lower upper)))))

-- how many rows an answer has
abbrev pub answer_size : Answer → ℕ
answer_size (Found row) = 1
answer_size (Rows rows) = length rows

-- a question and its answer
abbrev pub Observation : Type 0
Observation = Question × Answer

-- the state after one write; a deletion of an absent object leaves it as it is
unfoldable pub put : State → Write → State
put state (object, None) = remove state object
put state (object, Some row) = insert state object row

-- the state after some writes, done in their order (Kung and Robinson, section 2)
abbrev pub apply : State → List Write → State
apply state [] = state
apply state (write ∷ writes) = apply (put state write) writes

-- whether one of the writes is of an object that the question asks for
abbrev pub meets_question : List Write → Question → Bool
meets_question [] question = false
meets_question (write ∷ writes) question = asks question write.0 || meets_question writes question

-- whether writes meet reads: some object written is asked for by some question (Kung and Robinson, section 3, "the write set intersects the read set"; ranges are our own choice)
abbrev pub meets_reads : List Write → List Question → Bool
meets_reads writes [] = false
meets_reads writes (question ∷ questions) = meets_question writes question || meets_reads writes questions

-- the question that asks for what a write writes
abbrev pub target : Write → Question
target write = One write.0.0 write.0.1

-- whether writes meet writes: some object is in both (Kung and Robinson, section 3)
abbrev pub meets_writes : List Write → List Write → Bool
meets_writes writes others = meets_reads writes (map target others)
