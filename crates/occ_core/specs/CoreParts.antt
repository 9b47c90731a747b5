-- What the parts of a core say together: a world of the model, and what ties the parts to it.
use Rattle.std.specs.Prelude.{◌≡◌, ◌⊎◌, ℕ, suc, ◌+◌, ◌-◌, ◌<◌, ◌≤◌, List, length, drop, Option, None, Some, if◌then◌else◌, nat_lt, slice_get}
use Rattle.std.specs.FinMap.{FinMap}
use Rattle.std.specs.Ordering.{nat_cmp}
use Rattle.occ_types.specs.declared.limits.TheConstants.{MAX_LOG_ROWS, MAX_COUNTER, MAX_NUMBER}
use Rattle.occ_model.specs.State.{State, Write}
use Rattle.occ_model.specs.Log.{LogRow, Base}
use Rattle.occ_model.specs.Validity.{AreSame, finished_opponents}
use Rattle.occ_model.specs.World.{Settings, World, ReadPhase, phase_cmp, empty_base, low, latest, last_entered, active_count}
use Rattle.occ_model.specs.Content.{IsLawful}
use Rattle.occ_log.specs.SessionStates.{Slot, Hold, held_from, IsHeldAt}
use Rattle.occ_core.specs.declared.checkpoint.TheConstants.{MAX_PLACE}

-- The row at a place in the order of entry, in a log whose first row has this place. A row before it does not stand there.
unfoldable pub row_placed : ℕ → List LogRow → ℕ → Option LogRow
row_placed first log place = if nat_lt place first then None else slice_get log (place - first)

pub record Parts : Type 0 where
  pub settings : Settings
  pub base : Base
  pub log : List LogRow
  pub table : State
  pub counter : ℕ
  pub marks : FinMap nat_cmp ℕ
  pub phases : FinMap phase_cmp ReadPhase
  -- of each session, in order
  pub slots : List Slot
  -- the last write sets up to the counter, in the order of their numbers
  pub window : List (List Write)

abbrev pub world_of : Parts → World
world_of parts = record {
  settings = parts.settings;
  base = parts.base;
  log = parts.log;
  table = parts.table;
  counter = parts.counter;
  marks = parts.marks;
  phases = parts.phases;
  held = held_from 1 parts.slots;
}

abbrev pub low_of : Parts → ℕ
low_of parts = low (world_of parts)

-- The number before that of the first write set in the window. Between the lower end of the window and this number none is kept: no row of the log finished there, since the store went on from a base.
abbrev pub before_first : Parts → ℕ
before_first parts = parts.counter - length parts.window

-- the row at a place in the order of entry
abbrev pub found_at : Parts → ℕ → Option LogRow
found_at parts = row_placed parts.base.place parts.log

-- the row that a session has under way stands in a log whose first row has this place
pub record Stands (first : ℕ) (log : List LogRow) (session : ℕ) (hold : Hold) : Type 0 where
  pub index : ℕ
  pub place_is : hold.place ≡ first + index
  pub row : LogRow
  pub there : IsHeldAt session index log row
  pub writes_are : hold.writes ≡ row.writes

-- It was backed up and folded, and no row of its session stands in the log.
pub record IsGone (first : ℕ) (log : List LogRow) (session : ℕ) (hold : Hold) : Type 0 where
  pub before : hold.place < first
  pub none : latest session log ≡ None

-- one or the other holds of the row that a session has under way
abbrev pub HasRow : ℕ → List LogRow → ℕ → Hold → Type 0
HasRow first log session hold = Stands first log session hold ⊎ IsGone first log session hold

-- what holds of each session's slot
pub record SlotIsTrue (parts : Parts) (place : ℕ) (slot : Slot) : Type 0 where
  pub last_is : slot.last ≡ last_entered (world_of parts) (suc place)
  pub last_fits : slot.last ≤ MAX_NUMBER
  pub row_is : (hold : Hold) → slot.hold ≡ Some hold → HasRow parts.base.place parts.log (suc place) hold

-- What holds of the parts of every core.
pub record AreSound (parts : Parts) : Type 0 where
  pub law : IsLawful (world_of parts)
  pub each_session : length parts.slots ≡ parts.settings.sessions
  pub slots_true : (place : ℕ) (slot : Slot) → slice_get parts.slots place ≡ Some slot → SlotIsTrue parts place slot
  pub window_size : length parts.window ≤ parts.counter - low_of parts
  pub window_is : (start : ℕ) → low_of parts ≤ start → AreSame (drop (start - before_first parts) parts.window) (finished_opponents parts.log parts.counter (low_of parts) start)
  pub log_room : length parts.log ≤ MAX_LOG_ROWS
  pub place_room : parts.base.place ≤ MAX_PLACE
  -- a log that begins at the first place of all was never folded
  pub base_begins : parts.base.place ≡ 0 → parts.base ≡ empty_base
  pub counter_room : parts.counter + active_count (world_of parts) ≤ MAX_COUNTER
