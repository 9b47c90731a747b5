-- Whole transactions in one step: what such a step leaves, and when it is refused.
use Rattle.std.specs.Prelude.{◌≡◌, ℕ, ◌+◌, ◌<◌, true, false, nat_lt, List, [], ◌∷◌, ◌++◌, length, Option}
use Rattle.std.specs.FinMap as finite
use Rattle.std.specs.FinMap.{FinMap}
use Rattle.std.specs.Ordering.{nat_cmp}
use Rattle.occ_types.specs.declared.fault.Fault.{Fault}
use Rattle.occ_types.specs.declared.fault.Fault.TheVariants.{StoreBusy}
use Rattle.occ_types.specs.declared.limits.TheConstants.{MAX_NUMBER, MAX_LOG_ROWS, MAX_COUNTER}
use Rattle.occ_types.specs.Schema.{fault_if, first_fault}
use Rattle.occ_model.specs.State.{Write, Observation, apply}
use Rattle.occ_model.specs.Log.{LogRow, Done, Back}
use Rattle.occ_model.specs.World.{World, ReadPhase, phase_cmp, active_count, has_session, is_held}
use Rattle.occ_model.specs.Step.{entering}
use Rattle.occ_model.specs.declared.verdict.Cause.{Cause}
use Rattle.occ_core.specs.Reads.{start_fault}
use Rattle.occ_core.specs.EntryFaults.{spare_fault, turn_to_close}
use Rattle.occ_log.specs.SessionStates.{Slot, active_from}

-- A transaction committed at once: its row stands at the end of the log under the next transaction number, its writes are done, and its read phase is over.
abbrev pub committed : World → ℕ → ℕ → ℕ → List Observation → List Write → World
committed world session number start reads writes = record world {
  log = world.log ++ entering world session number start reads writes (Done (world.counter + 1)) ∷ [];
  phases = finite.remove world.phases (session, number);
  table = apply world.table writes;
  counter = world.counter + 1;
}

-- A transaction backed up at once: its row stands at the end of the log, and its read phase is over.
abbrev pub backed : World → ℕ → ℕ → ℕ → List Observation → List Write → Cause → World
backed world session number start reads writes cause = record world {
  log = world.log ++ entering world session number start reads writes (Back cause) ∷ [];
  phases = finite.remove world.phases (session, number);
}

-- the session is there and free, and there is room for one more transaction of it
pub record MayEnd (world : World) (session number : ℕ) : Type 0 where
  pub exists : has_session world session ≡ true
  pub free : is_held world session ≡ false
  pub number_fits : number < MAX_NUMBER
  pub log_room : length world.log < MAX_LOG_ROWS
  pub counter_room : world.counter + active_count world < MAX_COUNTER

-- some transactions are active
abbrev pub quiet_fault : ℕ → Option Fault
quiet_fault active = fault_if (nat_lt 0 active) StoreBusy

-- the session can't end a transaction at once under the number from the start
abbrev pub turn_to_end : List Slot → FinMap nat_cmp ℕ → (ℕ → Option LogRow) → FinMap phase_cmp ReadPhase → ℕ → ℕ → ℕ → ℕ → Option Fault
turn_to_end slots marks log phases counter session number start = first_fault (
    turn_to_close slots marks session number
    ∷ quiet_fault (length (active_from log slots))
    ∷ spare_fault number
    ∷ start_fault (finite.get phases (session, number)) counter start
    ∷ [])
