-- What a replay answers to a step, as plain data, and the one text of each answer (our own choice).
use Rattle.std.specs.Prelude.{ℕ, List, [], ◌++◌, length, Option, None, Some, codes, slice_get}
use Rattle.std.specs.List.{flat_map}
use Rattle.std.specs.Fmt.{decimal}
use Rattle.occ_types.specs.Key.{Key}
use Rattle.occ_types.specs.Object.{Object}
use Rattle.occ_types.specs.Row.{Row}
use Rattle.occ_types.specs.Schema.{Schema}
use Rattle.occ_types.specs.declared.fault.Fault.{Fault}
use Rattle.occ_types.specs.declared.fault.Fault.TheVariants as faults
use Rattle.occ_model.specs.State as states
use Rattle.occ_model.specs.Event.{Reply}
use Rattle.occ_model.specs.Event as events
use Rattle.occ_model.specs.declared.verdict.Verdict.{Verdict}
use Rattle.occ_model.specs.declared.verdict.Verdict.TheVariants as verdicts
use Rattle.occ_model.specs.declared.verdict.Cause.{Cause}
use Rattle.occ_model.specs.declared.verdict.Cause.TheVariants as causes
use Rattle.occ_core.specs.Runs.{reply_of}
use Rattle.occ_types.specs.Spelling.{key_text, row_text}
use Rattle.occ_cli.specs.declared.answers.Counts.{Counts}
use Rattle.occ_cli.specs.declared.answers.Answer as code_answer
use Rattle.occ_cli.specs.declared.answers.Answer.TheVariants as answers

pub data Answer : Type 0 where
  -- the number and the start of the transaction
  Begun : ℕ → ℕ → Answer
  Done : Answer
  -- the number of the transaction
  Queued : ℕ → Answer
  -- the number of the closing mark
  Closing : ℕ → Answer
  Empty : Answer
  Counted : Counts → Answer
  -- what the store replied, or a client in its place
  Replied : Reply → Answer

-- a step is refused, by the store or by a client
abbrev pub refused : Fault → Answer
refused fault = Replied (events.Refused fault)

module _ {Z : Type 0} where
  -- the plain answer
  abbrev pub answer_of : code_answer.Answer Z → Answer
  answer_of (answers.Begun number start) = Begun number start
  answer_of answers.Done = Done
  answer_of (answers.Queued number) = Queued number
  answer_of (answers.Closing number) = Closing number
  answer_of answers.Empty = Empty
  answer_of (answers.Counted counts) = Counted counts
  answer_of (answers.Refused refusal) = refused refusal.fault
  answer_of (answers.Replied reply) = Replied (reply_of reply)

-- the number of a fault
abbrev pub fault_number : Fault → ℕ
fault_number faults.NoTable = 1
fault_number faults.WrongKind = 2
fault_number faults.WrongColumns = 3
fault_number faults.TooLong = 4
fault_number faults.EmptyRange = 5
fault_number faults.BadSchema = 6
fault_number faults.SetFull = 7
fault_number faults.Memory = 8
fault_number faults.QueueFull = 9
fault_number faults.Closed = 10
fault_number faults.NumbersExhausted = 11
fault_number faults.NoSession = 12
fault_number faults.SessionClosed = 13
fault_number faults.OutOfTurn = 14
fault_number faults.SessionBusy = 15
fault_number faults.FutureStart = 16
fault_number faults.StartDiffers = 17
fault_number faults.NothingEntered = 18
fault_number faults.NotDecided = 19
fault_number faults.AlreadyDecided = 20
fault_number faults.WritesLeft = 21
fault_number faults.LogFull = 22
fault_number faults.CounterExhausted = 23
fault_number faults.RangeTooLarge = 24
fault_number faults.StoreBusy = 25
fault_number faults.WrongCase = 26
fault_number faults.ReadOpen = 27
fault_number faults.NoReadOpen = 28

-- the word of a cause
abbrev pub cause_text : Cause → List ℕ
cause_text causes.Conflict = codes "conflict"
cause_text causes.TooOld = codes "tooold"

abbrev pub verdict_text : Verdict → List ℕ
verdict_text verdicts.Commit = codes "commit"
verdict_text (verdicts.BackUp cause) = codes "backup " ++ cause_text cause

abbrev pub found_text : Option Row → List ℕ
found_text None = codes "none"
found_text (Some row) = codes "row " ++ row_text row

-- a key and its row, with what stands before them
abbrev pub pair_text : List ℕ → Key × Row → List ℕ
pair_text before pair = before ++ (key_text pair.0 ++ (codes "=" ++ row_text pair.1))

abbrev pub rows_text : List (Key × Row) → List ℕ
rows_text rows = (codes "rows " ++ decimal (length rows)) ++ flat_map (pair_text (codes " ")) rows

abbrev pub counts_text : Counts → List ℕ
counts_text counts =
    codes "counter " ++ (decimal counts.counter ++ (codes " low " ++ (decimal counts.low ++ (codes " log " ++ (decimal counts.log
    ++ (codes " state " ++ (decimal counts.state ++ (codes " active " ++ decimal counts.active))))))))

-- the name of the table at a place
abbrev pub name_at : Schema → ℕ → List ℕ
name_at schema place = elim (slice_get schema place) [ None ↦ [] | Some table ↦ table.name ]

-- what a single write wrote
abbrev pub object_text : Schema → Object → List ℕ
object_text schema object = name_at schema object.0 ++ (codes " " ++ key_text object.1)

-- what was read by an operation that ran alone, as a token with the space before it
abbrev pub answer_token : states.Answer → List ℕ
answer_token (states.Found None) = codes " none"
answer_token (states.Found (Some row)) = codes " row:" ++ row_text row
answer_token (states.Rows rows) = (codes " rows:" ++ decimal (length rows)) ++ flat_map (pair_text (codes ":")) rows

-- the line of what the store replies, under its schema
abbrev pub reply_text : Schema → Reply → List ℕ
reply_text schema (events.Refused fault) = codes "refused F" ++ decimal (fault_number fault)
reply_text schema (events.Answered (states.Found row)) = found_text row
reply_text schema (events.Answered (states.Rows rows)) = rows_text rows
reply_text schema (events.Forgotten known) = codes "ok"
reply_text schema (events.Entered place index) = codes "entered " ++ decimal place
reply_text schema events.Closed = codes "closed"
reply_text schema (events.Decided verdict) = verdict_text verdict
reply_text schema (events.Wrote object) = codes "wrote " ++ object_text schema object
reply_text schema events.NoMore = codes "nomore"
reply_text schema (events.Finished number) = codes "finished " ++ decimal number
reply_text schema (events.BackedUp number) = codes "backed " ++ decimal number
reply_text schema (events.EndedBack cause) = codes "backup " ++ cause_text cause
reply_text schema (events.RanAlone number given) = (codes "finished " ++ decimal number) ++ flat_map answer_token given
reply_text schema (events.Folded rows) = codes "folded " ++ decimal rows

-- the line of an answer, without its line feed
abbrev pub answer_text : Schema → Answer → List ℕ
answer_text schema (Begun number start) = codes "begun " ++ (decimal number ++ (codes " " ++ decimal start))
answer_text schema Done = codes "ok"
answer_text schema (Queued number) = codes "queued " ++ decimal number
answer_text schema (Closing number) = codes "closing " ++ decimal number
answer_text schema Empty = codes "empty"
answer_text schema (Counted counts) = counts_text counts
answer_text schema (Replied reply) = reply_text schema reply
