-- The queue of one session: its items are numbered without a gap, and nothing follows its closing mark (our own choice).
use Rattle.std.specs.Prelude.{◌≡◌, ℕ, suc, ◌+◌, ◌≤◌, ◌<◌, Bool, false, not, ◌||◌, ◌==◌, nat_le, nat_lt, List, [], ◌∷◌, ◌++◌, map, length, Option, if◌then◌else◌}
use Rattle.occ_types.specs.declared.fault.Fault.{Fault}
use Rattle.occ_types.specs.declared.fault.Fault.TheVariants as faults
use Rattle.occ_types.specs.declared.limits.TheConstants.{MAX_NUMBER}
use Rattle.occ_types.specs.Schema.{fault_if, first_fault}
use Rattle.occ_model.specs.Event.{Item}
use Rattle.occ_model.specs.Log.{Counts}
use Rattle.occ_queue.specs.Items.{number_of, is_mark}

-- The items that wait, the first one first, and how many there may be; the number that the queue begins behind; that of the last item that was pushed, which is the same as long as there is none; and whether that one was the closing mark.
pub record Numbered : Type 0 where
  pub items : List Item
  pub limit : ℕ
  pub before : ℕ
  pub pushed : ℕ
  pub closed : Bool

-- a queue that begins behind a number, and into which nothing was pushed
abbrev pub behind : ℕ → ℕ → Numbered
behind limit last = record { items = []; limit = limit; before = last; pushed = last; closed = false }

-- one whose first item has the number 1
abbrev pub unused : ℕ → Numbered
unused limit = behind limit 0

-- why there is no queue that begins behind a number
abbrev pub behind_fault : ℕ → Fault
behind_fault last = if nat_lt MAX_NUMBER last then faults.NumbersExhausted else faults.Memory

-- the number of the next item
abbrev pub next : Numbered → ℕ
next queue = queue.pushed + 1

-- the queue with one more item at its end, which is the closing mark or not
abbrev pub with_item : Numbered → Item → Numbered
with_item queue item = record queue {
  items = queue.items ++ item ∷ [];
  pushed = next queue;
  closed = is_mark item;
}

abbrev pub is_full : Numbered → Bool
is_full queue = nat_le queue.limit (length queue.items)

-- why an item isn't the one with the next number
abbrev pub out_of_turn : Bool → ℕ → Item → Option Fault
out_of_turn closed due item = first_fault (
    fault_if closed faults.Closed
    ∷ fault_if (nat_le MAX_NUMBER due) faults.NumbersExhausted
    ∷ fault_if (is_mark item || not (number_of item == due)) faults.OutOfTurn
    ∷ [])

-- why an item can't be submitted even where there is room
abbrev pub turn_fault : Numbered → Item → Option Fault
turn_fault queue item = out_of_turn queue.closed (next queue) item

-- why a request with this number can't be submitted, where there is a reason
abbrev pub refusal_of_request : Numbered → ℕ → Option Fault
refusal_of_request queue number = first_fault (
    fault_if queue.closed faults.Closed
    ∷ fault_if (nat_le MAX_NUMBER (next queue)) faults.NumbersExhausted
    ∷ fault_if (not (number == next queue)) faults.OutOfTurn
    ∷ fault_if (is_full queue) faults.QueueFull
    ∷ [])

-- why an item can't be submitted, where there is a reason
abbrev pub refusal_of_submit : Numbered → Item → Option Fault
refusal_of_submit queue item = first_fault (turn_fault queue item ∷ fault_if (is_full queue) faults.QueueFull ∷ [])

-- why no mark has the next number: there is one, or no number is left
abbrev pub no_mark : Bool → ℕ → Option Fault
no_mark closed due = first_fault (
    fault_if closed faults.Closed
    ∷ fault_if (nat_lt MAX_NUMBER due) faults.NumbersExhausted
    ∷ [])

-- why a session can't be closed even where there is room
abbrev pub close_fault : Numbered → Option Fault
close_fault queue = no_mark queue.closed (next queue)

-- why a session can't be closed, where there is a reason
abbrev pub refusal_of_close : Numbered → Option Fault
refusal_of_close queue = first_fault (close_fault queue ∷ fault_if (is_full queue) faults.QueueFull ∷ [])

-- of the items that wait, none but the last is a mark; and that one is where the session is closed
abbrev pub EndsWithMark : Bool → List Item → Type 0
EndsWithMark closed [] = Unit {0}
EndsWithMark closed (item ∷ []) = is_mark item ≡ closed
EndsWithMark closed (item ∷ next ∷ items) = (is_mark item ≡ false) × EndsWithMark closed (next ∷ items)

-- What holds of the queue of a session.
pub record IsInTurn (queue : Numbered) : Type 0 where
  -- those that wait have the numbers after those that were taken, up to the last that was pushed, without a gap
  pub numbered : (taken : ℕ) × (queue.pushed ≡ taken + length queue.items) × Counts (suc taken) (map number_of queue.items)
  pub begun : queue.before ≤ queue.pushed
  pub ended : EndsWithMark queue.closed queue.items
  -- the last number is for the mark alone, unless the queue begins behind it
  pub within : queue.pushed ≤ MAX_NUMBER
  pub spare : queue.closed ≡ false → queue.before < MAX_NUMBER → queue.pushed < MAX_NUMBER
