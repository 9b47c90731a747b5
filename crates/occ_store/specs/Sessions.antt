-- What clauses see of a session, what its calls make of it, and when they are refused (our own choice).
use Rattle.std.specs.Prelude.{◌≡◌, ℕ, Bool, true, false, nat_lt, List, [], ◌∷◌, length, Option, None, Some, is_some, IsSomeAnd}
use Rattle.occ_types.specs.declared.fault.Fault.{Fault}
use Rattle.occ_types.specs.declared.fault.Fault.TheVariants as faults
use Rattle.occ_types.specs.declared.limits.TheConstants.{MAX_NUMBER, MAX_OPERATIONS}
use Rattle.occ_types.specs.Schema.{Schema, fault_if, first_fault}
use Rattle.occ_model.specs.Operations.{Operation}
use Rattle.occ_model.specs.Event.{Item, Request, Alone, Close}
use Rattle.occ_model.specs.Refusal.{numbers_exhausted, check_operations}
use Rattle.occ_sets.specs.Sets.{Copied}
use Rattle.occ_queue.specs.Lanes.{Known, as_queue, pushing}
use Rattle.occ_queue.specs.Numbering as numbering
use Rattle.occ_board.specs.declared.rule.Seen.{Seen}
use Rattle.occ_board.specs.Rule.{started}
use Rattle.occ_open.specs.Transactions as transactions
use Rattle.occ_history.specs.History.{FrontView}

-- Its number, the tables of its store, what its seat has seen of the board, what it pushed and heard of as taken, the transaction that it has open, and what it has seen of the history.
pub record SessionView : Type 0 where
  pub session : ℕ
  pub schema : Schema
  pub seat : Seen
  pub sender : Known
  pub draft : Option Copied
  pub front : FrontView

-- the number of the next transaction
abbrev pub due : SessionView → ℕ
due session = numbering.next (as_queue session.sender)

-- the number of the last one, or the one that the session began behind
abbrev pub last_number : SessionView → ℕ
last_number session = (as_queue session.sender).pushed

-- the closing mark was pushed
abbrev pub closed : SessionView → Option Fault
closed session = fault_if (as_queue session.sender).closed faults.Closed

-- a transaction is open
abbrev pub read_open : SessionView → Option Fault
read_open session = fault_if (is_some session.draft) faults.ReadOpen

-- no number is left, not even for the closing mark
abbrev pub no_number : SessionView → Option Fault
no_number session = fault_if (nat_lt MAX_NUMBER (due session)) faults.NumbersExhausted

-- as many items were pushed as the queue holds beyond those that the session heard of as taken
abbrev pub queue_full : SessionView → Option Fault
queue_full session = fault_if (numbering.is_full (as_queue session.sender)) faults.QueueFull

-- The open transaction has the next number, which is not that of the closing mark, and the session is not closed.
pub record IsNext (sender : Known) (copy : Copied) : Type 0 where
  pub number : copy.number ≡ numbering.next (as_queue sender)
  pub spare : numbers_exhausted copy.number ≡ None
  pub unclosed : fault_if (as_queue sender).closed faults.Closed ≡ None

-- so it is where one is open
abbrev pub MayBeSubmitted : Known → Option Copied → Type 0
MayBeSubmitted sender draft = (copy : Copied) → draft ≡ Some copy → IsNext sender copy

-- `begin`: why it is refused, and what it makes of the session
abbrev pub begin_fault : SessionView → Option Fault
begin_fault session = first_fault (closed session ∷ read_open session ∷ numbers_exhausted (due session) ∷ [])

abbrev pub begun : SessionView → ℕ → SessionView
begun session start = record session {
  seat = started session.seat start;
  draft = Some (transactions.begun (due session) start);
}

-- `submit`
abbrev pub submit_fault : SessionView → Option Fault
submit_fault session = first_fault (closed session ∷ transactions.none_open session.draft ∷ [])

-- with an item pushed, and no transaction open
abbrev pub handed_in : SessionView → Item → SessionView
handed_in session item = record session { sender = pushing session.sender item; draft = None }

abbrev pub request : Copied → Item
request copy = Request copy.number copy.start copy.writes

-- the transaction that an item was made of
abbrev pub draft_of : Item → Option Copied
draft_of (Request number start writes) = Some (record { number = number; start = start; writes = writes })
draft_of (Alone number operations) = None
draft_of (Close number) = None

-- whether an item has operations that run alone
abbrev pub is_alone : Item → Bool
is_alone (Request number start writes) = false
is_alone (Alone number operations) = true
is_alone (Close number) = false

-- the open transaction waits from now on, under its number
abbrev pub Submits : SessionView → ℕ → SessionView → Type 0
Submits old number new = IsSomeAnd old.draft (λ copy. (number ≡ copy.number) × (new ≡ handed_in old (request copy)))

-- `close`
abbrev pub close_fault : SessionView → Option Fault
close_fault session = first_fault (closed session ∷ read_open session ∷ no_number session ∷ [])

-- `alone`
abbrev pub alone_fault : SessionView → List Operation → Option Fault
alone_fault session operations = first_fault (
    closed session
    ∷ read_open session
    ∷ numbers_exhausted (due session)
    ∷ fault_if (nat_lt MAX_OPERATIONS (length operations)) faults.SetFull
    ∷ check_operations session.schema operations
    ∷ [])

-- a call that pushes is refused by the first fault that applies, or else where the queue is full
abbrev pub IsRefusedBy : Option Fault → SessionView → Fault → Type 0
IsRefusedBy known session fault = first_fault (known ∷ queue_full session ∷ []) ≡ Some fault
