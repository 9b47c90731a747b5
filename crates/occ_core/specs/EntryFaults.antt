-- When an entry is refused, over the parts of a core: the tests of the model, each over the part that it reads (our own choice).
use Rattle.std.specs.Prelude.{ℕ, ◌+◌, ◌-◌, not, ◌==◌, nat_le, List, [], ◌∷◌, length, Option, None, Some, cond, is_some, slice_get}
use Rattle.std.specs.FinMap as finite
use Rattle.std.specs.FinMap.{FinMap}
use Rattle.std.specs.Ordering.{nat_cmp}
use Rattle.occ_types.specs.declared.fault.Fault.{Fault}
use Rattle.occ_types.specs.declared.fault.Fault.TheVariants.{OutOfTurn, SessionBusy, NumbersExhausted, LogFull, CounterExhausted}
use Rattle.occ_types.specs.declared.limits.TheConstants.{MAX_NUMBER, MAX_LOG_ROWS, MAX_COUNTER}
use Rattle.occ_types.specs.Schema.{Schema, fault_if, first_fault, check_key, check_row}
use Rattle.occ_model.specs.State.{Write}
use Rattle.occ_model.specs.Log.{LogRow, is_active}
use Rattle.occ_model.specs.World.{ReadPhase, phase_cmp}
use Rattle.occ_model.specs.Refusal.{check_writes}
use Rattle.occ_core.specs.Reads.{session_fault, closed_fault, start_fault}
use Rattle.occ_log.specs.SessionStates.{Slot, last_of, active_from}

-- a number is not the one after that of the session's last transaction
abbrev pub due_fault : ℕ → ℕ → Option Fault
due_fault last number = fault_if (not (number == last + 1)) OutOfTurn

-- a session that may be there has a row under way
abbrev pub busy_fault : Option Slot → Option Fault
busy_fault None = None
busy_fault (Some slot) = fault_if (is_some slot.hold) SessionBusy

-- only the number of the closing mark is left
abbrev pub spare_fault : ℕ → Option Fault
spare_fault number = fault_if (nat_le MAX_NUMBER number) NumbersExhausted

-- the session can't enter under the number from the start
abbrev pub turn_to_enter : List Slot → FinMap nat_cmp ℕ → FinMap phase_cmp ReadPhase → ℕ → ℕ → ℕ → ℕ → Option Fault
turn_to_enter slots marks phases counter session number start = first_fault (
    session_fault slots session
    ∷ closed_fault marks session
    ∷ due_fault (last_of slots (session - 1)) number
    ∷ busy_fault (slice_get slots (session - 1))
    ∷ spare_fault number
    ∷ start_fault (finite.get phases (session, number)) counter start
    ∷ [])

-- the session can't close under the number
abbrev pub turn_to_close : List Slot → FinMap nat_cmp ℕ → ℕ → ℕ → Option Fault
turn_to_close slots marks session number = first_fault (
    session_fault slots session
    ∷ closed_fault marks session
    ∷ due_fault (last_of slots (session - 1)) number
    ∷ busy_fault (slice_get slots (session - 1))
    ∷ [])

-- a write that may be there does not fit the schema
abbrev pub write_fault : Schema → Option Write → Option Fault
write_fault schema None = None
write_fault schema (Some write) = first_fault (
    check_key schema write.0.0 write.0.1
    ∷ elim write.1 [ None ↦ None | Some row ↦ check_row schema write.0.0 row ]
    ∷ [])

-- the log has no room for one more row
abbrev pub log_fault : ℕ → Option Fault
log_fault rows = fault_if (nat_le MAX_LOG_ROWS rows) LogFull

-- the counter has no room for the active transactions and one more
abbrev pub counter_fault : ℕ → ℕ → Option Fault
counter_fault counter active = fault_if (nat_le (MAX_COUNTER - counter) active) CounterExhausted

-- the writes don't fit, or there is no room for them; so many rows stand in the log, and are found by their places
abbrev pub room_to_enter : Schema → List Slot → ℕ → (ℕ → Option LogRow) → ℕ → List Write → Option Fault
room_to_enter schema slots rows log counter writes = first_fault (
    check_writes schema writes
    ∷ log_fault rows
    ∷ counter_fault counter (length (active_from log slots))
    ∷ [])

-- the writes of the row of a session that may be there, where it is active
abbrev pub active_at : (ℕ → Option LogRow) → Option Slot → Option (List Write)
active_at log None = None
active_at log (Some slot) = elim slot.hold [
  | None ↦ None
  | Some hold ↦ elim (log hold.place) [ None ↦ None | Some row ↦ cond (is_active row.standing) (Some row.writes) None ]
]
