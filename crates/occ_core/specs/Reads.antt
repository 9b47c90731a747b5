-- When a read is refused, over the parts of a core: the tests of the model, each over the part that it reads (our own choice).
use Rattle.std.specs.Prelude.{ℕ, ◌+◌, ◌-◌, not, ◌==◌, ◌&&◌, ◌||◌, nat_le, nat_lt, List, [], ◌∷◌, ◌++◌, length, Option, None, Some}
use Rattle.std.specs.FinMap as finite
use Rattle.std.specs.FinMap.{FinMap}
use Rattle.std.specs.Ordering.{nat_cmp}
use Rattle.occ_types.specs.declared.fault.Fault.{Fault}
use Rattle.occ_types.specs.declared.fault.Fault.TheVariants.{NoSession, SessionClosed, OutOfTurn, FutureStart, StartDiffers, RangeTooLarge, SetFull}
use Rattle.occ_types.specs.declared.limits.TheConstants.{MAX_ANSWER_ROWS, MAX_QUESTIONS, READ_AHEAD}
use Rattle.occ_types.specs.Schema.{fault_if, first_fault}
use Rattle.occ_types.specs.Question.{Question}
use Rattle.occ_model.specs.State.{State, Observation, answer, answer_size}
use Rattle.occ_model.specs.World.{ReadPhase, phase_cmp}
use Rattle.occ_log.specs.Phases.{reads_of}
use Rattle.occ_log.specs.SessionStates.{Slot, last_of}

-- there is no such session
abbrev pub session_fault : List Slot → ℕ → Option Fault
session_fault slots session = fault_if (not (nat_le 1 session && nat_le session (length slots))) NoSession

-- the session has its closing mark
abbrev pub closed_fault : FinMap nat_cmp ℕ → ℕ → Option Fault
closed_fault marks session = fault_if (finite.contains_key marks session) SessionClosed

-- the number is neither the one after the session's last, which is due, nor among the 1,025 after that
abbrev pub number_fault : ℕ → ℕ → Option Fault
number_fault last number = fault_if (nat_lt number (last + 1) || nat_lt (last + 1 + READ_AHEAD) number) OutOfTurn

-- the start is not that of the read phase under way; or there is none, and the start lies above the counter
abbrev pub start_fault : Option ReadPhase → ℕ → ℕ → Option Fault
start_fault begun counter start = elim begun [
  | None ↦ fault_if (nat_lt counter start) FutureStart
  | Some phase ↦ fault_if (not (phase.start == start)) StartDiffers
]

-- the session can't read under the number, whose read phase may be under way, from this start
abbrev pub turn_to_read : List Slot → FinMap nat_cmp ℕ → Option ReadPhase → ℕ → ℕ → ℕ → ℕ → Option Fault
turn_to_read slots marks begun counter session number start = first_fault (
    session_fault slots session
    ∷ closed_fault marks session
    ∷ number_fault (last_of slots (session - 1)) number
    ∷ start_fault begun counter start
    ∷ [])

-- the answer has too many rows
abbrev pub size_fault : State → Question → Option Fault
size_fault table question = fault_if (nat_lt MAX_ANSWER_ROWS (answer_size (answer question table))) RangeTooLarge

-- the read phase has no room for another question
abbrev pub room_to_read : Option ReadPhase → Option Fault
room_to_read begun = fault_if (nat_le MAX_QUESTIONS (length (reads_of begun))) SetFull

-- the read phases with one more observation, in the phase of a number that has this start
abbrev pub noted : FinMap phase_cmp ReadPhase → ℕ → ℕ → ℕ → Observation → FinMap phase_cmp ReadPhase
noted phases session number start seen =
    finite.insert phases (session, number) (record { start = start; reads = reads_of (finite.get phases (session, number)) ++ seen ∷ [] })
