-- The tries of a transaction in a session whose lane another thread serves (our own choice).
use Rattle.std.specs.Prelude.{◌≡◌, ◌⊎◌, ℕ, ◌<◌, ◌≤◌, List, [], ◌∷◌, ◌++◌, length, Option, None, Some, Result, Ok, Err, is_some, if◌then◌else◌, ◌==◌}
use Rattle.occ_types.specs.declared.fault.Fault.{Fault}
use Rattle.occ_types.specs.declared.fault.Fault.TheVariants as faults
use Rattle.occ_model.specs.Event.{Item, Request, Alone, Close, Reply}
use Rattle.occ_sets.specs.Sets.{Copied}
use Rattle.occ_open.specs.Transactions.{begun}
use Rattle.occ_store.specs.Sessions.{SessionView, due, last_number, begin_fault, submit_fault, request, IsRefusedBy}
use Rattle.occ_store.specs.Names.{Named}
use Rattle.occ_store.specs.Transactions.{TransactionView, AbandonsIn}
use Rattle.occ_history.specs.History.{FrontView}
use Rattle.occ_store.specs.Bodies.{Making, Becoming, ComesOf}
use Rattle.occ_queue.specs.Lanes.{pushing}
use Rattle.occ_store.specs.Ended.{IsTold}
use Rattle.occ_case.specs.declared.ended.Ended.{Ended}
use Rattle.occ_case.specs.declared.ended.Ended.TheVariants.{Committed, BackedUp}

-- how often a transaction is tried at most
abbrev pub most_tries : ℕ → ℕ
most_tries tries = if tries == 0 then 1 else tries

-- A request that was made so of a transaction without a write, which the session began under that number, by a run that answered the value. The run was answered what stands in the history from what was seen before to what was seen then.
abbrev pub IsMade : {Value Error : Type 0} → Making Value Error → ℕ → Value → Item → FrontView → FrontView → Type 0
IsMade Made session value (Request number start writes) from to = (began : ℕ) × (after : TransactionView)
    × (after.draft ≡ Some (record { number = number; start = start; writes = writes })) × (to ≡ after.front)
    × Made (record { session = session; draft = Some (begun number began); front = from }) (Ok value) after
IsMade Made session value (Alone number operations) from to = ⊥
IsMade Made session value (Close number) from to = ⊥

-- each of them was made so, by some run, one after another
abbrev pub AllMade : {Value Error : Type 0} → Making Value Error → ℕ → List Item → FrontView → FrontView → Type 0
AllMade Made session [] from to = to ≡ from
AllMade {Value} Made session (item ∷ items) from to = (between : FrontView)
    × ((value : Value) × IsMade Made session value item from between) × AllMade Made session items between to

-- the last one was, by a run that answered the value
abbrev pub LastMade : {Value Error : Type 0} → Making Value Error → ℕ → List Item → Value → FrontView → Type 0
LastMade Made session items value to = (before : List Item) × (last : Item) × (items ≡ before ++ last ∷ [])
    × ((from : FrontView) × IsMade Made session value last from to)

-- So many requests were handed in, each of which was made so, and that is all that was asked until then. Nothing else of the session changes but what its seat saw and what it has seen of the history, and no transaction is open where none was.
pub record Requests {Value Error : Type 0} (Made : Making Value Error) (count : ℕ) (old : SessionView) (asked : FrontView) (new : SessionView) : Type 0 where
  pub items : List Item
  pub pushed : new ≡ record old { seat = new.seat; sender = record old.sender { pushed = old.sender.pushed ++ items }; draft = new.draft; front = new.front }
  pub many : length items ≡ count
  pub made : AllMade Made old.session items old.front asked
  pub none_open : old.draft ≡ None → new.draft ≡ None

-- all tries were made, if the last one was backed up
abbrev pub IsLastTry : {Value : Type 0} → ℕ → ℕ → Ended Value → Type 0
IsLastTry count most (Committed tn value) = Unit {0}
IsLastTry count most (BackedUp cause) = count ≡ most

-- So many tries were made, each of which handed in one request. The board tells how the last one ended, with the value that the very run answered which made it, and no transaction is open.
pub record Tried {Value Error : Type 0} (Made : Making Value Error) (count : ℕ) (old : SessionView) (ended : Ended Value) (new : SessionView) : Type 0 where
  pub requests : Requests Made count old new.front new
  pub value : Value
  pub answered : LastMade Made old.session requests.items value new.front
  pub told : IsTold new.seat.last (last_number new) value ended
  pub none_open : new.draft ≡ None

-- The tries of a transaction. There is at least one; and after a back-up there were as many as there may be.
abbrev pub Ends : {Value Error : Type 0} → Making Value Error → ℕ → SessionView → Ended Value → SessionView → Type 0
Ends Made most old ended new = (count : ℕ) × (0 < count) × (count ≤ most) × IsLastTry count most ended × Tried Made count old ended new

-- one request was handed in, with this number, which was made by a run that answered the value
abbrev pub HandsInOne : {Value Error : Type 0} → Making Value Error → SessionView → ℕ → Value → SessionView → Type 0
HandsInOne Made old number value new = (number ≡ due old) × ((copy : Copied) × (number ≡ copy.number)
    × (new ≡ record old { seat = new.seat; sender = pushing old.sender (request copy); draft = None; front = new.front })
    × IsMade Made old.session value (request copy) old.front new.front)

-- the open transaction as it is lent to a body
abbrev pub lent : SessionView → TransactionView
lent session = record { session = session.session; draft = session.draft; front = session.front }

-- in a run that ended so it became this one, and this is what was seen then
abbrev pub RunsIn : {Value Error : Type 0} → Making Value Error → SessionView → Result Value Error → Option Copied → FrontView → Type 0
RunsIn Made session ran draft front = (after : TransactionView) × (draft ≡ after.draft) × (front ≡ after.front) × Made (lent session) ran after

-- a run failed, and this is what was seen then: by its own error, or since it left another transaction than the one that was lent to it
abbrev pub RunFails : {Value Error : Type 0} → Making Value Error → Becoming Error → SessionView → Error → FrontView → Type 0
RunFails {Value} {Error} Made Becomes session error front = (ran : Result Value Error) × (draft : Option Copied) × RunsIn Made session ran draft front
    × ((ran ≡ Err error) ⊎ Becomes faults.OutOfTurn error)

-- the transaction is another one, under this number
abbrev pub Reopens : SessionView → ℕ → SessionView → Type 0
Reopens old number new = (copy : Copied) × (copy.number ≡ number) × (new ≡ record old { draft = Some copy })

-- A transaction is given up: none is open then, and the state forgets what it read.
abbrev pub GivesUp : Named → SessionView → SessionView → Type 0
GivesUp named old new = ((reply : Reply) × AbandonsIn named (lent old) reply new.front) × (new ≡ record old { draft = None; front = new.front })

-- the transaction that a session begins without a write, which has seen this before
abbrev pub begun_from : SessionView → ℕ → FrontView → SessionView
begun_from session start from = record session { draft = Some (begun (due session) start); front = from }

-- why it is: the run in it failed, which began without a write and had seen this before; or it is refused as `submit` is after that run
abbrev pub IsGivenUpFor : {Value Error : Type 0} → Making Value Error → Becoming Error → FrontView → SessionView → Error → Type 0
IsGivenUpFor {Value} Made Becomes from session error = (start : ℕ) × (RunFails Made Becomes (begun_from session start from) error session.front
    ⊎ ((value : Value) × RunsIn Made (begun_from session start from) (Ok value) session.draft session.front
    × ComesOf Becomes (IsRefusedBy (submit_fault session) session) error))

-- Why a transaction isn't handed in by a session that had seen this before: none may begin, and nothing more is seen; or it was given up.
abbrev pub NotHandedIn : {Value Error : Type 0} → Making Value Error → Becoming Error → Named → FrontView → SessionView → Error → Type 0
NotHandedIn Made Becomes named from session error = ((session.front ≡ from) × ComesOf Becomes (λ fault. begin_fault session ≡ Some fault) error)
    ⊎ ((before : SessionView) × GivesUp named before session × IsGivenUpFor Made Becomes from before error)

-- Fewer requests were handed in than there may be tries, since the last try handed none in, which began with what was asked until then.
abbrev pub HandsInFewer : {Value Error : Type 0} → Making Value Error → Becoming Error → Named → ℕ → SessionView → Error → SessionView → Type 0
HandsInFewer Made Becomes named most old error new = (count : ℕ) × (asked : FrontView) × (count < most) × Requests Made count old asked new
    × NotHandedIn Made Becomes named asked new error
