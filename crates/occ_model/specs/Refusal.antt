-- When an event is refused (our own choice). Each list stands in the order in which its tests are tried.
use Rattle.std.specs.Prelude.{ℕ, ◌+◌, Bool, true, false, not, ◌==◌, ◌||◌, nat_le, nat_lt, List, [], ◌∷◌, length, Option, None, Some, is_some}
use Rattle.std.specs.FinMap as finite
use Rattle.std.specs.List.{list_any}
use Rattle.occ_types.specs.declared.fault.Fault.{Fault}
use Rattle.occ_types.specs.declared.fault.Fault.TheVariants as faults
use Rattle.occ_types.specs.declared.limits.TheConstants.{MAX_QUESTIONS, MAX_OPERATIONS, MAX_ANSWER_ROWS, MAX_LOG_ROWS, MAX_COUNTER, MAX_NUMBER, READ_AHEAD}
use Rattle.occ_types.specs.declared.kind.Kind.TheVariants as cells
use Rattle.occ_types.specs.Schema.{Schema, fault_if, first_fault, check_key, check_row, check_question, in_table}
use Rattle.occ_types.specs.Question.{Question, Span}
use Rattle.occ_model.specs.State.{Write, answer, answer_size}
use Rattle.occ_model.specs.Log.{Standing, Open, Writing, Done, Back, is_active, is_open, is_back, rest}
use Rattle.occ_model.specs.Operations.{Operation, Get, Scan, Put, Delete, Add}
use Rattle.occ_model.specs.Event.{Request, Alone, Close, Event, Read, Forget, Enter, Decide, WriteOne, Finish, BackUp, SerialEnd, RunAlone, Checkpoint}
use Rattle.occ_model.specs.World.{World, due, latest, reads_under, active_count, has_session, has_mark, has_phase, is_held}

abbrev pub no_session : World → ℕ → Option Fault
no_session world session = fault_if (not (has_session world session)) faults.NoSession

abbrev pub session_closed : World → ℕ → Option Fault
session_closed world session = fault_if (has_mark world session) faults.SessionClosed

abbrev pub not_due : World → ℕ → ℕ → Option Fault
not_due world session number = fault_if (not (number == due world session)) faults.OutOfTurn

abbrev pub not_readable : World → ℕ → ℕ → Option Fault
not_readable world session number =
    fault_if (nat_lt number (due world session) || nat_lt (due world session + READ_AHEAD) number) faults.OutOfTurn

abbrev pub session_busy : World → ℕ → Option Fault
session_busy world session = fault_if (is_held world session) faults.SessionBusy

abbrev pub numbers_exhausted : ℕ → Option Fault
numbers_exhausted number = fault_if (nat_le MAX_NUMBER number) faults.NumbersExhausted

-- the start is not that of the read phase; or there is none, and the start lies above the counter
abbrev pub wrong_start : World → ℕ → ℕ → ℕ → Option Fault
wrong_start world session number start = elim (finite.get world.phases (session, number)) [
  | None ↦ fault_if (nat_lt world.counter start) faults.FutureStart
  | Some phase ↦ fault_if (not (phase.start == start)) faults.StartDiffers
]

abbrev pub range_too_large : World → Question → Option Fault
range_too_large world question =
    fault_if (nat_lt MAX_ANSWER_ROWS (answer_size (answer question world.table))) faults.RangeTooLarge

abbrev pub questions_full : World → ℕ → ℕ → Option Fault
questions_full world session number =
    fault_if (nat_le MAX_QUESTIONS (length (reads_under world session number))) faults.SetFull

abbrev pub log_full : World → Option Fault
log_full world = fault_if (nat_le MAX_LOG_ROWS (length world.log)) faults.LogFull

-- each active transaction may still take a number, and so may this one
abbrev pub counter_exhausted : World → Option Fault
counter_exhausted world = fault_if (nat_le MAX_COUNTER (world.counter + active_count world)) faults.CounterExhausted

abbrev pub store_busy : World → Option Fault
store_busy world = fault_if (list_any (λ row. is_active row.standing) world.log) faults.StoreBusy

abbrev pub read_open : World → ℕ → ℕ → Option Fault
read_open world session number = fault_if (has_phase world session number) faults.ReadOpen

abbrev pub nothing_entered : World → ℕ → Option Fault
nothing_entered world session = fault_if (not (is_held world session)) faults.NothingEntered

-- A held session's row that no longer stands in the log was backed up and folded.
abbrev pub row_is_open : World → ℕ → Bool
row_is_open world session = elim (latest session world.log) [ None ↦ false | Some row ↦ is_open row.standing ]

abbrev pub row_is_back : World → ℕ → Bool
row_is_back world session = elim (latest session world.log) [ None ↦ true | Some row ↦ is_back row.standing ]

abbrev pub has_writes_left : World → ℕ → Bool
has_writes_left world session =
    elim (latest session world.log) [ None ↦ false | Some row ↦ nat_lt 0 (length (rest row)) ]

abbrev pub not_decided : World → ℕ → Option Fault
not_decided world session = fault_if (row_is_open world session) faults.NotDecided

abbrev pub check_writes : Schema → List Write → Option Fault
check_writes schema [] = None
check_writes schema (write ∷ writes) = first_fault (
    check_key schema write.0.0 write.0.1
    ∷ elim write.1 [ None ↦ None | Some row ↦ check_row schema write.0.0 row ]
    ∷ check_writes schema writes
    ∷ [])

-- a table whose rows are one whole number
abbrev pub check_number : Schema → ℕ → Option Fault
check_number schema place = in_table schema place (λ table. first_fault (
    fault_if (not (length table.columns == 1)) faults.WrongColumns
    ∷ elim table.columns [ [] ↦ None | kind ∷ kinds ↦ elim kind [ cells.Int ↦ None | cells.Text ↦ Some faults.WrongKind ] ]
    ∷ []))

abbrev pub check_operation : Schema → Operation → Option Fault
check_operation schema (Get place key) = check_key schema place key
check_operation schema (Scan place lower upper) = check_question schema (Span place lower upper)
check_operation schema (Put place key row) = first_fault (check_key schema place key ∷ check_row schema place row ∷ [])
check_operation schema (Delete place key) = check_key schema place key
check_operation schema (Add place key n) = first_fault (check_key schema place key ∷ check_number schema place ∷ [])

abbrev pub check_operations : Schema → List Operation → Option Fault
check_operations schema [] = None
check_operations schema (operation ∷ operations) = first_fault (
    check_operation schema operation
    ∷ check_operations schema operations
    ∷ [])

-- where a row can be folded: it is backed up, or finished before the window
abbrev pub foldable : ℕ → Standing → Bool
foldable low (Open index case) = false
foldable low (Writing done) = false
foldable low (Done number) = nat_le number low
foldable low (Back cause) = true

abbrev pub refusal_of_request : World → Option Fault → ℕ → ℕ → ℕ → List Write → Option Fault
refusal_of_request world busy session number start writes = first_fault (
    no_session world session
    ∷ session_closed world session
    ∷ not_due world session number
    ∷ session_busy world session
    ∷ busy
    ∷ numbers_exhausted number
    ∷ wrong_start world session number start
    ∷ check_writes world.settings.schema writes
    ∷ log_full world
    ∷ counter_exhausted world
    ∷ [])

abbrev pub refusal_of_close : World → ℕ → ℕ → Option Fault
refusal_of_close world session number = first_fault (
    no_session world session
    ∷ session_closed world session
    ∷ not_due world session number
    ∷ session_busy world session
    ∷ [])

abbrev pub refusal_of_alone : World → ℕ → ℕ → List Operation → Option Fault
refusal_of_alone world session number operations = first_fault (
    no_session world session
    ∷ session_closed world session
    ∷ not_due world session number
    ∷ session_busy world session
    ∷ read_open world session number
    ∷ store_busy world
    ∷ numbers_exhausted number
    ∷ fault_if (nat_lt MAX_OPERATIONS (length operations)) faults.SetFull
    ∷ check_operations world.settings.schema operations
    ∷ log_full world
    ∷ counter_exhausted world
    ∷ [])

-- the fault that an event is refused for, where there is one
abbrev pub refusal : World → Event → Option Fault
refusal world (Read session number start question) = first_fault (
    no_session world session
    ∷ session_closed world session
    ∷ not_readable world session number
    ∷ wrong_start world session number start
    ∷ check_question world.settings.schema question
    ∷ range_too_large world question
    ∷ questions_full world session number
    ∷ [])
refusal world (Forget session number) = no_session world session
refusal world (Enter session (Request number start writes)) = refusal_of_request world None session number start writes
refusal world (Enter session (Alone number operations)) = refusal_of_alone world session number operations
refusal world (Enter session (Close number)) = refusal_of_close world session number
refusal world (Decide session) = first_fault (
    no_session world session
    ∷ nothing_entered world session
    ∷ fault_if (not (row_is_open world session)) faults.AlreadyDecided
    ∷ [])
refusal world (WriteOne session) = first_fault (
    no_session world session
    ∷ nothing_entered world session
    ∷ not_decided world session
    ∷ fault_if (row_is_back world session) faults.AlreadyDecided
    ∷ [])
refusal world (Finish session) = first_fault (
    no_session world session
    ∷ nothing_entered world session
    ∷ not_decided world session
    ∷ fault_if (row_is_back world session) faults.AlreadyDecided
    ∷ fault_if (has_writes_left world session) faults.WritesLeft
    ∷ [])
refusal world (BackUp session) = first_fault (
    no_session world session
    ∷ nothing_entered world session
    ∷ not_decided world session
    ∷ fault_if (not (row_is_back world session)) faults.AlreadyDecided
    ∷ [])
refusal world (SerialEnd session (Request number start writes)) =
    refusal_of_request world (store_busy world) session number start writes
refusal world (SerialEnd session (Alone number operations)) = refusal_of_alone world session number operations
refusal world (SerialEnd session (Close number)) = refusal_of_close world session number
refusal world (RunAlone session number operations) = refusal_of_alone world session number operations
refusal world Checkpoint = fault_if (list_any (λ row. is_open row.standing) world.log) faults.StoreBusy

-- whether the session's next single write puts a row
abbrev pub puts_next : World → ℕ → Bool
puts_next world session = elim (latest session world.log) [
  | None ↦ false
  | Some row ↦ elim (rest row) [ [] ↦ false | write ∷ writes ↦ is_some write.1 ]
]

-- the events that need memory: each may also be refused for want of it, and then nothing moves
abbrev pub takes_memory : World → Event → Bool
takes_memory world (Read session number start question) = true
takes_memory world (Forget session number) = false
takes_memory world (Enter session (Request number start writes)) = true
takes_memory world (Enter session (Alone number operations)) = true
takes_memory world (Enter session (Close number)) = false
takes_memory world (Decide session) = false
takes_memory world (WriteOne session) = puts_next world session
takes_memory world (Finish session) = false
takes_memory world (BackUp session) = false
takes_memory world (SerialEnd session (Request number start writes)) = true
takes_memory world (SerialEnd session (Alone number operations)) = true
takes_memory world (SerialEnd session (Close number)) = false
takes_memory world (RunAlone session number operations) = true
takes_memory world Checkpoint = true
