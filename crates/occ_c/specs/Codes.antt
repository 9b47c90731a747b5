-- The numbers that C gets for what calls come to (our own choice).
use Rattle.std.specs.Prelude.{⊤, ℕ, ℤ, pos, List, length, Option, None, Some, Result, Ok, Err}
use Rattle.occ_types.specs.declared.fault.Fault.{Fault}
use Rattle.occ_types.specs.declared.fault.Fault.TheVariants as faults
use Rattle.occ_types.specs.declared.fault.Refused.{Refused}
use Rattle.occ_bytes.specs.declared.reading.Unread.{Unread}
use Rattle.occ_bytes.specs.declared.reading.Unread.TheVariants as unreads
use Rattle.occ_text.specs.declared.trouble.Trouble.{Trouble}
use Rattle.occ_text.specs.declared.trouble.Trouble.TheVariants as troubles
use Rattle.occ_types.specs.Row.{Row}
use Rattle.occ_model.specs.declared.verdict.Cause.{Cause}
use Rattle.occ_model.specs.declared.verdict.Cause.TheVariants as causes
use Rattle.occ_client.specs.declared.ending.End.{End}
use Rattle.occ_client.specs.declared.ending.End.TheVariants as ends
use Rattle.occ_sharing.specs.declared.whole.Counts.{Counts}
use Rattle.occ_sharing.specs.declared.places.Missed.{Missed}
use Rattle.occ_sharing.specs.declared.places.Missed.TheVariants as misses

abbrev pub fault_code : Fault → ℤ
fault_code faults.NoTable = pos 1
fault_code faults.WrongKind = pos 2
fault_code faults.WrongColumns = pos 3
fault_code faults.TooLong = pos 4
fault_code faults.EmptyRange = pos 5
fault_code faults.BadSchema = pos 6
fault_code faults.SetFull = pos 7
fault_code faults.Memory = pos 8
fault_code faults.QueueFull = pos 9
fault_code faults.Closed = pos 10
fault_code faults.NumbersExhausted = pos 11
fault_code faults.NoSession = pos 12
fault_code faults.SessionClosed = pos 13
fault_code faults.OutOfTurn = pos 14
fault_code faults.SessionBusy = pos 15
fault_code faults.FutureStart = pos 16
fault_code faults.StartDiffers = pos 17
fault_code faults.NothingEntered = pos 18
fault_code faults.NotDecided = pos 19
fault_code faults.AlreadyDecided = pos 20
fault_code faults.WritesLeft = pos 21
fault_code faults.LogFull = pos 22
fault_code faults.CounterExhausted = pos 23
fault_code faults.RangeTooLarge = pos 24
fault_code faults.StoreBusy = pos 25
fault_code faults.WrongCase = pos 26
fault_code faults.ReadOpen = pos 27
fault_code faults.NoReadOpen = pos 28

abbrev pub cause_code : Cause → ℤ
cause_code causes.Conflict = pos 100
cause_code causes.TooOld = pos 101

abbrev pub missed_code : Missed → ℤ
missed_code misses.Ended = pos 105
missed_code misses.Again = pos 107

-- the code of bytes that are not read
abbrev pub unread_code : Unread → ℤ
unread_code unreads.Malformed = pos 104
unread_code unreads.NotUtf8 = pos 108
unread_code unreads.Memory = pos 8

-- the code of what ended an engine that reads and writes in memory
abbrev pub trouble_code : Trouble → ℤ
trouble_code (troubles.Malformed line) = pos 104
trouble_code troubles.Read = pos 104
trouble_code troubles.Write = pos 8
trouble_code troubles.Memory = pos 8

-- the line of a text that is none of the grammar, or 0
abbrev pub line_of : Trouble → ℕ
line_of (troubles.Malformed line) = line
line_of troubles.Read = 0
line_of troubles.Write = 0
line_of troubles.Memory = 0

-- what a desk answers for a call of its worker: the value, or the code
abbrev pub answered : {X : Type 0} → Result (Result X Fault) Missed → Result X ℤ
answered (Ok (Ok x)) = Ok x
answered (Ok (Err fault)) = Err (fault_code fault)
answered (Err missed) = Err (missed_code missed)

-- and so where the call is refused by no fault
abbrev pub reached : {X : Type 0} → Result X Missed → Result X ℤ
reached (Ok x) = Ok x
reached (Err missed) = Err (missed_code missed)

-- and so where the value isn't told
abbrev pub nothing_told : {X : Type 0} → Result X ℤ → Result ⊤ ℤ
nothing_told (Ok x) = Ok tt
nothing_told (Err code) = Err code

-- a write is refused by a fault alone, and hands back what was to be written
abbrev pub wrote : {X : Type 0} → Result ⊤ (Refused X) → Result ⊤ ℤ
wrote (Ok done) = Ok tt
wrote (Err refused) = Err (fault_code refused.fault)

-- the row under a key, where there is one
abbrev pub found : Result (Option Row) ℤ → Result Row ℤ
found (Ok (Some row)) = Ok row
found (Ok None) = Err (pos 102)
found (Err code) = Err code

-- the transaction number of an end that commits
abbrev pub committed : Result End ℤ → Result ℕ ℤ
committed (Ok (ends.Committed tn)) = Ok tn
committed (Ok (ends.BackedUp cause)) = Err (cause_code cause)
committed (Err code) = Err code

-- how many there are
abbrev pub counted : {X : Type 0} → Result (List X) ℤ → Result ℕ ℤ
counted (Ok xs) = Ok (length xs)
counted (Err code) = Err code

-- the code of an answer
abbrev pub code_of : {X : Type 0} → Result X ℤ → ℤ
code_of (Ok x) = pos 0
code_of (Err code) = code

-- the code of an answer, with what stands then where its value is told
abbrev pub telling : {X : Type 0} → X → Result X ℤ → ℤ × X
telling stood (Ok x) = (pos 0, x)
telling stood (Err code) = (code, stood)

-- the same for what a store counts
abbrev pub counting : ℕ → ℕ → Result Counts ℤ → ℤ × ℕ × ℕ
counting commits rows (Ok counts) = (pos 0, counts.commits, counts.rows)
counting commits rows (Err code) = (code, commits, rows)
