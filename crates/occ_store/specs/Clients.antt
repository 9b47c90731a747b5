-- What a client does whose lane another thread serves (our own choice).
use Rattle.std.specs.Prelude.{◌≡◌, ◌⊎◌, ℕ, ◌+◌, ◌<◌, ◌≤◌, [], ◌∷◌, Bool, true, false, Option, None, Some}
use Rattle.occ_types.specs.declared.fault.Fault.{Fault}
use Rattle.occ_types.specs.declared.fault.Fault.TheVariants as faults
use Rattle.occ_types.specs.Schema.{first_fault}
use Rattle.occ_model.specs.Event.{Reply}
use Rattle.occ_board.specs.declared.words.Last.{Last}
use Rattle.occ_board.specs.declared.rule.Seen.{Seen}
use Rattle.occ_store.specs.Sessions.{SessionView, closed, no_number, last_number}
use Rattle.occ_store.specs.Bodies.{Making}
use Rattle.occ_store.specs.Ended.{IsTold}
use Rattle.occ_store.specs.Names.{Named}
use Rattle.occ_store.specs.Transactions.{AbandonsIn}
use Rattle.occ_store.specs.Tries.{Requests, LastMade, Tried, Ends, lent}
use Rattle.occ_history.specs.History.{FrontView}
use Rattle.occ_case.specs.declared.ended.Ended.{Ended}
use Rattle.occ_case.specs.declared.ended.Ended.TheVariants as ends
use Rattle.occ_store.specs.declared.awaited.Pending as pendings
use Rattle.occ_store.specs.declared.awaited.Awaited.{Awaited}
use Rattle.occ_store.specs.declared.awaited.Awaited.TheVariants.{Settled, Pending}

-- whether it is over and was backed up
abbrev pub has_cause : {Value : Type 0} → Ended Value → Bool
has_cause (ends.Committed tn value) = false
has_cause (ends.BackedUp cause) = true

abbrev pub was_backed_up : {Value : Type 0} → Awaited Value → Bool
was_backed_up (Settled ended) = has_cause ended
was_backed_up (Pending pending) = false

-- the board doesn't tell how the transaction with a number ended
abbrev pub IsUntold : Last → ℕ → Type 0
IsUntold last number = last.number ≡ number → last.status ≡ None

-- a seat has polled at least once and at most so often
abbrev pub IsPolled : ℕ → Seen → Seen → Type 0
IsPolled most old new = (count : ℕ) × (0 < count) × (count ≤ most) × (new ≡ record old { last = new.last; polls = old.polls + count })

-- what came of waiting for a transaction: how it ended, as the board tells it; or it doesn't tell that, and the transaction is as it was
abbrev pub IsAwaited : {Value : Type 0} → Last → pendings.Pending Value → Awaited Value → Type 0
IsAwaited last pending (Settled ended) = IsTold last pending.number pending.value ended
IsAwaited last pending (Pending again) = (again ≡ pending) × IsUntold last pending.number

-- So many tries were made, each of which handed in one request. The last one has this number, was made by a run that answered this value, and isn't told as over; no transaction is open.
pub record Waits {Value Error : Type 0} (Made : Making Value Error) (count : ℕ) (old : SessionView) (pending : pendings.Pending Value) (new : SessionView) : Type 0 where
  pub requests : Requests Made count old new.front new
  pub answered : LastMade Made old.session requests.items pending.value new.front
  pub number : pending.number ≡ last_number new
  pub untold : IsUntold new.seat.last pending.number
  pub none_open : new.draft ≡ None

-- so many tries were made, and this came of waiting for the last one
abbrev pub TriedSo : {Value Error : Type 0} → Making Value Error → ℕ → SessionView → Awaited Value → SessionView → Type 0
TriedSo Made count old (Settled ended) new = Tried Made count old ended new
TriedSo Made count old (Pending pending) new = Waits Made count old pending new

-- The tries of a transaction, of which there is at least one. They ended, or the last one is pending.
abbrev pub Awaits : {Value Error : Type 0} → Making Value Error → ℕ → SessionView → Awaited Value → SessionView → Type 0
Awaits Made most old (Settled ended) new = Ends Made most old ended new
Awaits Made most old (Pending pending) new = (count : ℕ) × (0 < count) × (count ≤ most) × Waits Made count old pending new

-- ---- `give_up`

-- no transaction is open
abbrev pub without_draft : SessionView → SessionView
without_draft session = record session { draft = None }

-- why it is refused, if there is room
abbrev pub give_up_fault : SessionView → Option Fault
give_up_fault session = first_fault (closed session ∷ no_number session ∷ [])

-- where a transaction is open, the state forgets what it read
abbrev pub LetsGo : Named → SessionView → FrontView → Type 0
LetsGo named session front = elim session.draft [
  | None ↦ front ≡ session.front
  | Some copy ↦ (reply : Reply) × AbandonsIn named (lent session) reply front
]
