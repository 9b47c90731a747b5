-- When a list of operations is not run alone, over the parts of a core.
use Rattle.std.specs.Prelude.{ℕ, nat_lt, List, [], ◌∷◌, length, Option}
use Rattle.std.specs.FinMap as finite
use Rattle.std.specs.FinMap.{FinMap}
use Rattle.std.specs.Ordering.{nat_cmp}
use Rattle.occ_types.specs.declared.fault.Fault.{Fault}
use Rattle.occ_types.specs.declared.fault.Fault.TheVariants.{ReadOpen, SetFull}
use Rattle.occ_types.specs.declared.limits.TheConstants.{MAX_OPERATIONS}
use Rattle.occ_types.specs.Schema.{Schema, fault_if, first_fault}
use Rattle.occ_model.specs.Log.{LogRow}
use Rattle.occ_model.specs.Operations.{Operation}
use Rattle.occ_model.specs.Refusal.{check_operations}
use Rattle.occ_model.specs.World.{ReadPhase, phase_cmp}
use Rattle.occ_core.specs.AtOnce.{quiet_fault}
use Rattle.occ_core.specs.EntryFaults.{spare_fault, turn_to_close, log_fault, counter_fault}
use Rattle.occ_log.specs.SessionStates.{Slot, active_from}

-- something was read under the number
abbrev pub read_open_fault : FinMap phase_cmp ReadPhase → ℕ → ℕ → Option Fault
read_open_fault phases session number = fault_if (finite.contains_key phases (session, number)) ReadOpen

-- there are too many operations
abbrev pub count_fault : ℕ → Option Fault
count_fault operations = fault_if (nat_lt MAX_OPERATIONS operations) SetFull

-- the session can't run operations alone under the number
abbrev pub turn_to_run : List Slot → FinMap nat_cmp ℕ → (ℕ → Option LogRow) → FinMap phase_cmp ReadPhase → ℕ → ℕ → Option Fault
turn_to_run slots marks log phases session number = first_fault (
    turn_to_close slots marks session number
    ∷ read_open_fault phases session number
    ∷ quiet_fault (length (active_from log slots))
    ∷ spare_fault number
    ∷ [])

-- there are too many operations, or one doesn't fit, or there is no room for them
abbrev pub room_to_run : Schema → List Slot → ℕ → (ℕ → Option LogRow) → ℕ → List Operation → Option Fault
room_to_run schema slots rows log counter operations = first_fault (
    count_fault (length operations)
    ∷ check_operations schema operations
    ∷ log_fault rows
    ∷ counter_fault counter (length (active_from log slots))
    ∷ [])
