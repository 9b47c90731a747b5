-- What the core keeps of each session, and how its rows are found without a scan of the log.
use Rattle.std.specs.Prelude.{◌≡◌, ℕ, zero, suc, nat_lt, cond, List, [], ◌∷◌, ◌++◌, Option, None, Some, Result, Ok, Err, is_some, slice_get, option_map, option_and_then}
use Rattle.std.specs.Ordering.{nat_cmp}
use Rattle.std.specs.FinSet.{FinSet, empty, insert}
use Rattle.occ_types.specs.declared.fault.Fault.{Fault}
use Rattle.occ_types.specs.Object.{Object}
use Rattle.occ_types.specs.Schema.{fault_if}
use Rattle.occ_types.specs.declared.fault.Fault.TheVariants.{NoSession, NothingEntered, NotDecided, AlreadyDecided, WritesLeft}
use Rattle.occ_model.specs.State.{Write}
use Rattle.occ_model.specs.Log.{LogRow, Standing, Open, Writing, Done, Back, is_active}
use Rattle.occ_model.specs.World.{latest}
use Rattle.occ_sets.specs.Sets.{ArePlaced}

-- the row of a session that is under way: its place in the log, and its writes once more, for the window
pub record Hold : Type 0 where
  pub place : ℕ
  pub writes : List Write

-- the number of a session's last row to enter, and the row that is under way
pub record Slot : Type 0 where
  pub last : ℕ
  pub hold : Option Hold

-- the sessions, numbered on from one, that are held
abbrev pub held_from : ℕ → List Slot → FinSet nat_cmp
held_from n [] = empty
held_from n (slot ∷ slots) = cond (is_some slot.hold) (insert (held_from (suc n) slots) n) (held_from (suc n) slots)

-- the row at a place is the latest of a session
abbrev pub IsHeldAt : ℕ → ℕ → List LogRow → LogRow → Type 0
IsHeldAt session place [] row = ⊥
IsHeldAt session zero (first ∷ rows) row = (first ≡ row) × (row.session ≡ session) × (latest session rows ≡ None)
IsHeldAt session (suc place) (first ∷ rows) row = IsHeldAt session place rows row

-- the writes of a session's row, where it is active; rows are found by their places
abbrev pub active_of : (ℕ → Option LogRow) → Slot → List (List Write)
active_of log slot = elim slot.hold [
  | None ↦ []
  | Some hold ↦ elim (log hold.place) [ None ↦ [] | Some row ↦ cond (is_active row.standing) (row.writes ∷ []) [] ]
]

-- the writes of all active rows, found through their sessions
abbrev pub active_from : (ℕ → Option LogRow) → List Slot → List (List Write)
active_from log [] = []
active_from log (slot ∷ slots) = active_of log slot ++ active_from log slots

-- so many sessions of which nothing has entered
abbrev pub idle_slots : ℕ → List Slot
idle_slots zero = []
idle_slots (suc count) = record { last = 0; hold = None } ∷ idle_slots count

-- the last number of the session at a place, or 0 where there is none
abbrev pub last_of : List Slot → ℕ → ℕ
last_of slots place = elim (slice_get slots place) [ None ↦ 0 | Some slot ↦ slot.last ]

-- the place in the log of a session's row that is under way: there may be no such session, or nothing may have entered
abbrev pub row_under_way : List Slot → ℕ → Result ℕ Fault
row_under_way slots zero = Err NoSession
row_under_way slots (suc place) = elim (slice_get slots place) [
  | None ↦ Err NoSession
  | Some slot ↦ elim slot.hold [ None ↦ Err NothingEntered | Some hold ↦ Ok hold.place ]
]

-- why a row that stands so can't be backed up
abbrev pub back_fault : Standing → Option Fault
back_fault (Open index case) = Some NotDecided
back_fault (Writing done) = Some AlreadyDecided
back_fault (Done number) = Some AlreadyDecided
back_fault (Back cause) = None

-- the object of a write of the row at a place, by its place among the row's writes; rows are found by their places
abbrev pub written_at : (ℕ → Option LogRow) → ℕ → ℕ → Option Object
written_at log place write = option_and_then (λ row. option_map (λ w. w.0) (slice_get row.writes write)) (log place)

-- and so in a list of all rows
abbrev pub written_in : List LogRow → ℕ → ℕ → Option Object
written_in log = written_at (slice_get log)

-- how many writes a row that stands so has done, where it is in its write phase
abbrev pub writes_done : Standing → Result ℕ Fault
writes_done (Open index case) = Err NotDecided
writes_done (Writing done) = Ok done
writes_done (Done number) = Err AlreadyDecided
writes_done (Back cause) = Err AlreadyDecided

-- why a row can't be finished that stands so and has so many writes
abbrev pub finish_fault : Standing → ℕ → Option Fault
finish_fault (Open index case) writes = Some NotDecided
finish_fault (Writing done) writes = fault_if (nat_lt done writes) WritesLeft
finish_fault (Done number) writes = Some AlreadyDecided
finish_fault (Back cause) writes = Some AlreadyDecided

-- the writes of each row under way are of one of so many tables
abbrev pub HoldsArePlaced : ℕ → List Slot → Type 0
HoldsArePlaced tables slots = (place : ℕ) (slot : Slot) (hold : Hold) → slice_get slots place ≡ Some slot → slot.hold ≡ Some hold → ArePlaced tables hold.writes
