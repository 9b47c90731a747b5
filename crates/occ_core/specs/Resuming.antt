-- Why a store can't go on from a base (our own choice).
use Rattle.std.specs.Prelude.{◌≡◌, ◌⊎◌, ℕ, zero, suc, Bool, not, nat_lt, nat_eq, ◌&&◌, List, [], ◌∷◌, length, Option, None, Some, unwrap_or, slice_get}
use Rattle.std.specs.Ordering.{nat_cmp}
use Rattle.std.specs.FinMap as finite
use Rattle.std.specs.FinMap.{FinMap}
use Rattle.occ_types.specs.declared.fault.Fault.{Fault}
use Rattle.occ_types.specs.declared.fault.Fault.TheVariants.{NoTable, NoSession, OutOfTurn, NumbersExhausted, CounterExhausted, LogFull, Memory}
use Rattle.occ_types.specs.declared.limits.TheConstants.{MAX_COUNTER, MAX_NUMBER}
use Rattle.occ_types.specs.Key.{Key}
use Rattle.occ_types.specs.Question.{Span}
use Rattle.occ_types.specs.Row.{Row}
use Rattle.occ_types.specs.Schema.{Schema, fault_if, first_fault, check_key, check_row}
use Rattle.occ_model.specs.Log.{Base, last_folded}
use Rattle.occ_model.specs.State.{State, Found, Rows, answer}
use Rattle.occ_book.specs.Base.{BaseContent}
use Rattle.occ_log.specs.SessionStates.{Slot}
use Rattle.occ_core.specs.declared.checkpoint.TheConstants.{MAX_PLACE}

-- the first fault of a row of a table: of its key, and then of its cells
abbrev pub row_fault : Schema → ℕ → Key → Row → Option Fault
row_fault schema table key row = first_fault (check_key schema table key ∷ check_row schema table row ∷ [])

-- that of some rows
abbrev pub rows_fault : Schema → ℕ → List (Key × Row) → Option Fault
rows_fault schema table [] = None
rows_fault schema table (row ∷ rows) = first_fault (row_fault schema table row.0 row.1 ∷ rows_fault schema table rows ∷ [])

-- that of all rows of a table, in the order of their keys
abbrev pub table_fault : Schema → State → ℕ → Option Fault
table_fault schema state table = elim (answer (Span table None None) state) [ Found row ↦ None | Rows rows ↦ rows_fault schema table rows ]

-- that of so many tables, from a table on
abbrev pub tables_fault : Schema → State → ℕ → ℕ → Option Fault
tables_fault schema state table zero = None
tables_fault schema state table (suc count) = first_fault (table_fault schema state table ∷ tables_fault schema state (suc table) count ∷ [])

-- a last number, of so many sessions from one on, is past its limit
abbrev pub numbers_fault : FinMap nat_cmp ℕ → ℕ → ℕ → Option Fault
numbers_fault last session zero = None
numbers_fault last session (suc count) =
    first_fault (fault_if (nat_lt MAX_NUMBER (unwrap_or (finite.get last session) 0)) NumbersExhausted ∷ numbers_fault last (suc session) count ∷ [])

-- a base that no log has: it stands before the first place of all, and yet something was folded into it
abbrev pub is_unbegun : Base → Bool
is_unbegun base = nat_eq base.place 0 && not (nat_eq (finite.len base.state) 0 && nat_eq (finite.len base.last) 0)

-- the first of the faults that are told without a look at the rows
abbrev pub front_fault : Schema → ℕ → BaseContent → ℕ → Option Fault
front_fault schema sessions content counter = first_fault (
    fault_if (not (nat_eq content.tables (length schema))) NoTable
    ∷ fault_if (nat_lt sessions content.sessions) NoSession
    ∷ fault_if (nat_lt MAX_COUNTER counter) CounterExhausted
    ∷ fault_if (nat_lt MAX_PLACE content.base.place) LogFull
    ∷ numbers_fault content.base.last 1 content.sessions
    ∷ [])

-- the first of those that are told by a look at them
abbrev pub state_fault : Schema → Base → Option Fault
state_fault schema base = first_fault (fault_if (is_unbegun base) OutOfTurn ∷ tables_fault schema base.state 0 (length schema) ∷ [])

-- why a store with these tables and so many sessions can't go on from a base, with the counter at this number
abbrev pub resume_fault : Schema → ℕ → BaseContent → ℕ → Option Fault
resume_fault schema sessions content counter = first_fault (front_fault schema sessions content counter ∷ state_fault schema content.base ∷ [])

-- Why it is refused: for the first fault, or for want of memory, where the base has none but such as its rows tell.
abbrev pub CannotGoOn : Schema → ℕ → BaseContent → ℕ → Fault → Type 0
CannotGoOn schema sessions content counter fault =
    (resume_fault schema sessions content counter ≡ Some fault) ⊎ ((fault ≡ Memory) × (front_fault schema sessions content counter ≡ None))

-- so many sessions, each of which has had the last number that a base has of it, and has nothing under way
pub record Unfolded (base : Base) (sessions : ℕ) (slots : List Slot) : Type 0 where
  pub each : length slots ≡ sessions
  pub idle : (place : ℕ) (slot : Slot) → slice_get slots place ≡ Some slot → slot ≡ record { last = last_folded base (suc place); hold = None }
