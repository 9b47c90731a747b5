-- Which rows a base has room for, and what is said of rows that may be folded.
use Rattle.std.specs.Prelude.{ℕ, Bool, false, List, Option, None, Some, Ok, Err}
use Rattle.std.specs.List.{AllByRecursion}
use Rattle.occ_model.specs.Content.{IsSession}
use Rattle.occ_model.specs.Log.{LogRow, Standing, Open, Writing, Done, Back, is_open}
use Rattle.occ_model.specs.Validity.{verdict}
use Rattle.occ_model.specs.declared.verdict.Verdict.{Verdict}
use Rattle.occ_sets.specs.Sets.{ArePlaced}
use Rattle.occ_log.specs.SessionStates.{Slot, row_under_way, back_fault}
use Rattle.occ_types.specs.declared.fault.Fault.{Fault}
use Rattle.occ_types.specs.declared.fault.Fault.TheVariants.{AlreadyDecided}

-- a base with so many tables and sessions has room for a row
pub record Fits (tables sessions : ℕ) (row : LogRow) : Type 0 where
  pub session : IsSession sessions row.session
  pub placed : ArePlaced tables row.writes

-- and for each of some rows
abbrev pub AllFit : ℕ → ℕ → List LogRow → Type 0
AllFit tables sessions = AllByRecursion (Fits tables sessions)

-- the row of a session that is held is open; rows are found by their places
abbrev pub holds_open : (ℕ → Option LogRow) → Slot → Bool
holds_open log slot = elim slot.hold [
  | None ↦ false
  | Some hold ↦ elim (log hold.place) [ None ↦ false | Some row ↦ is_open row.standing ]
]

-- and so of a session that may be there
abbrev pub open_at : (ℕ → Option LogRow) → Option Slot → Bool
open_at log None = false
open_at log (Some slot) = holds_open log slot

-- why a session's row that is under way is not found: there may be no such session, nothing may have entered, or the row may be folded, which was decided then
abbrev pub under_way_fault : List Slot → (ℕ → Option LogRow) → ℕ → Option Fault
under_way_fault slots log session = elim (row_under_way slots session) [
  | Ok place ↦ elim (log place) [ None ↦ Some AlreadyDecided | Some row ↦ None ]
  | Err fault ↦ Some fault
]

-- the verdict on a row that stands so, where it is open
abbrev pub verdict_on : Standing → Option Verdict
verdict_on (Open index case) = Some (verdict case)
verdict_on (Writing done) = None
verdict_on (Done number) = None
verdict_on (Back cause) = None

-- why a row can't be backed up, where one that was folded can
abbrev pub back_fault_of : Option LogRow → Option Fault
back_fault_of None = None
back_fault_of (Some row) = back_fault row.standing
