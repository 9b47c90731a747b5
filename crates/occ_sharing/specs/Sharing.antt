-- A store that threads share: what lies in its place, and what a worker does in one holding of it (our own choice).
use Rattle.std.specs.Prelude.{⊤, ◌≡◌, ◌⊎◌, ◌≤◌, ◌<◌, ◌+◌, ◌%◌, ◌^◌, ℕ, Bool, true, false, List, length, Option, None, Some, is_some, MatchOption, MatchResult, Result, Ok, Err, IsOk, OnOk, OnErr, IfOk, IfErr}
use Rattle.std.specs.List.{All}
use Rattle.std.specs.Result.{result_err}
use Rattle.occ_types.specs.declared.fault.Fault.{Fault}
use Rattle.occ_types.specs.declared.fault.Refused.{Refused}
use Rattle.occ_types.specs.Object.{Object}
use Rattle.occ_types.specs.Question.{Question}
use Rattle.occ_types.specs.Key.{Key}
use Rattle.occ_types.specs.Row.{Row}
use Rattle.occ_types.specs.declared.fault.Fault.TheVariants as faults
use Rattle.occ_model.specs.Invariant.{Invariant}
use Rattle.std.specs.FinMap.{FinMap}
use Rattle.std.specs.Ordering.{nat_cmp}
use Rattle.occ_model.specs.Log.{Base, LogRow}
use Rattle.occ_model.specs.State.{State}
use Rattle.occ_model.specs.World.{Settings, World, active_count, low}
use Rattle.occ_model.specs.Event.{Request, SerialEnd, RunAlone, Checkpoint, Folded, Reply}
use Rattle.occ_model.specs.Replies.{replied}
use Rattle.occ_model.specs.Operations.{Operation}
use Rattle.occ_model.specs.Step.{Step}
use Rattle.occ_client.specs.Clients.{Client, begin_refusal, close_refusal, ending, count_end, spent}
use Rattle.occ_client.specs.declared.ending.End.{End}
use Rattle.occ_open.specs.Replies.{reading, scanning, forgetting}
use Rattle.occ_open.specs.Transactions.{begun, written, write_fault, open_after, WithOpen, Unless, IsRefusedBy, WantsRoom, WantsOwn, WantsRange, Gets, Scans, Abandons, OrStarves}
use Rattle.occ_sharing.specs.declared.places.Missed.{Missed}
use Rattle.occ_sharing.specs.declared.whole.Counts.{Counts}

-- a client that no worker has: it has a session of the store, and nothing open
pub record IsIdle (sessions : ℕ) (client : Client) : Type 0 where
  pub first : 1 ≤ client.session
  pub last : client.session ≤ sessions
  pub none : client.current ≡ None
  pub done : client.writing ≡ false

-- A world that lies in the place: it was opened with these settings, and no transaction is active, so that each end is a serial one.
pub record IsWorldOf (settings : Settings) (world : World) : Type 0 where
  pub opened : world.settings ≡ settings
  pub quiet : active_count world ≡ 0

-- what lies in the place of a store with these settings
pub record IsHeldOf (settings : Settings) (world : World) (idle : List Client) : Type 0 where
  pub is_of : IsWorldOf settings world
  pub are_idle : All (IsIdle settings.sessions) idle

-- what clauses see of a worker: what its store was opened with, its client, in a lease the world that it keeps, and how many holdings it
-- had, of which 2 ^ 64 count as none
pub record Worker : Type 0 where
  pub settings : Settings
  pub client : Client
  pub lease : Option World
  pub holdings : ℕ

abbrev pub one_more : ℕ → ℕ
one_more holdings = (holdings + 1) % 2 ^ 64

-- One holding: the world before, which is the one that the worker keeps, in a lease; the world after, which it keeps then; and what was
-- done between them.
pub record InOneHolding (old new : Worker) (Did : World → World → Type 0) : Type 0 where
  pub before : World
  pub after : World
  pub is_of : IsWorldOf old.settings before
  pub lawful : Invariant before
  pub begins : MatchOption old.lease ⊤ (λ world. before ≡ world)
  pub leaves : MatchOption new.lease ⊤ (λ world. world ≡ after)
  pub keeps : is_some old.lease ≡ true → is_some new.lease ≡ true
  pub same : new.settings ≡ old.settings
  pub counted : new.holdings ≡ one_more old.holdings
  pub did : Did before after

-- nothing was done: that comes in no lease, and changes nothing; as no holding is counted, the worker didn't have the core
pub record DidNothing (old new : Worker) : Type 0 where
  pub outside : old.lease ≡ None
  pub same : new ≡ old

-- what holds of a worker's client between its calls: each end is a serial one, so that no write phase of it is under way
pub record IsReady (sessions : ℕ) (client : Client) : Type 0 where
  pub done : client.writing ≡ false
  pub last : client.session ≤ sessions

-- `join`: a client that no worker had, where there is one; the world stays
pub record Joins (sessions : ℕ) (old new : Client) (result : Result ⊤ Fault) (before after : World) : Type 0 where
  pub ok : OnOk result (IsIdle sessions new)
  pub err : OnErr result (new ≡ old)
  pub fault : IfErr result (λ fault. fault ≡ faults.NoSession)
  pub world : after ≡ before

-- `leave`: the client goes back to those that no worker has; the world stays
pub record Leaves (old new : Client) (result : Result ⊤ Fault) (before after : World) : Type 0 where
  pub ok : OnOk result (new.session ≡ 0)
  pub err : OnErr result (new ≡ old)
  pub fault : IfErr result (λ fault. fault ≡ faults.Memory)
  pub world : after ≡ before

-- the client of a worker after a call that leaves it as it is, but for where its writes are
abbrev pub IsKept : Client → Client → Type 0
IsKept old new = new ≡ record old { returned = new.returned }

-- `begin`: the counter of the world is the start, and the world stays
pub record Begins (old new : Client) (result : Result ⊤ Fault) (before after : World) : Type 0 where
  pub refusal : result_err result ≡ begin_refusal before old
  pub ok : OnOk result (new ≡ record old { current = Some (begun old.next before.counter); returned = new.returned })
  pub err : OnErr result (new ≡ old)
  pub world : after ≡ before

-- the open transaction ends by a serial end
abbrev pub EndsAtOnce : Client → World → Reply → World → Type 0
EndsAtOnce client old reply new =
    WithOpen client.current old reply new (λ copy. Step old (SerialEnd client.session (Request copy.number copy.start copy.writes)) reply new)

-- what a book tells
pub record Told : Type 0 where
  pub base : Base
  pub marks : FinMap nat_cmp ℕ
  pub state : State
  pub log : List LogRow
  pub low : ℕ
  pub counter : ℕ

-- it tells a world
abbrev pub Shows : Told → World → Type 0
Shows told world = told ≡ record { base = world.base; marks = world.marks; state = world.table; log = world.log; low = low world; counter = world.counter }

-- operations run alone under the next number, where nothing is open
abbrev pub RunsAloneNext : Client → List Operation → World → Reply → World → Type 0
RunsAloneNext client operations old reply new =
    Unless (close_refusal client) old reply new (Step old (RunAlone client.session client.next operations) reply new)

-- ---- what each call of a worker is: one holding, or nothing

abbrev pub Came : {X : Type 0} → Worker → Worker → Result X Missed → (X → World → World → Type 0) → Type 0
Came old new came Did = MatchResult came (λ done. InOneHolding old new (Did done)) (λ missed. DidNothing old new)

abbrev pub BeginCame : Worker → Worker → Result (Result ⊤ Fault) Missed → Type 0
BeginCame old new came = Came old new came (λ done. Begins old.client new.client done)

abbrev pub AbandonCame : Worker → Worker → Result (Result Bool Fault) Missed → Type 0
AbandonCame old new came = Came old new came (λ done before after.
    Abandons before old.client.session old.client.current (forgetting done) after
    × (new.client ≡ record old.client { current = open_after old.client.current (forgetting done); returned = new.client.returned }))

abbrev pub CommitCame : Worker → Worker → Result (Result End Fault) Missed → Type 0
CommitCame old new came = Came old new came (λ done before after.
    EndsAtOnce old.client before (ending done) after
    × IfOk done (λ end. new.client ≡ count_end end (spent old.client))
    × OnErr done (IsKept old.client new.client))

abbrev pub CheckpointCame : Worker → Worker → Result (Result ℕ Fault) Missed → Type 0
CheckpointCame old new came = Came old new came (λ done before after.
    Step before Checkpoint (replied Folded done) after × (new.client ≡ old.client))

abbrev pub GetCame : Worker → Worker → Object → Result (Result (Option Row) Fault) Missed → Type 0
GetCame old new object came = Came old new came (λ done before after. IsKept old.client new.client
    × OrStarves ((old.client.returned ≡ true) ⊎ WantsOwn before.settings.schema object old.client.current) before (reading done) after
    (Gets before old.client.session object old.client.current (reading done) after))

abbrev pub ScanCame : Worker → Worker → Question → Result (Result (List (Key × Row)) Fault) Missed → Type 0
ScanCame old new question came = Came old new came (λ done before after. IsKept old.client new.client
    × OrStarves ((old.client.returned ≡ true) ⊎ WantsRange before.settings.schema question old.client.current) before (scanning done) after
    (Scans before old.client.session question old.client.current (scanning done) after))

abbrev pub CountsCame : Worker → Worker → Result Counts Missed → Type 0
CountsCame old new came = Came old new came (λ counts before after.
    (after ≡ before) × (new.client ≡ old.client) × (counts.commits ≡ before.counter) × (counts.rows ≡ length before.log))

-- it has a session already, or it takes one
abbrev pub JoinCame : Worker → Worker → Result (Result ⊤ Fault) Missed → Type 0
JoinCame old new came = (0 < old.client.session → (came ≡ Ok (Ok tt)) × (new ≡ old))
    × (old.client.session ≡ 0 → Came old new came (λ done. Joins old.settings.sessions old.client new.client done))

-- a transaction is open, or its session goes back
abbrev pub LeaveCame : Worker → Worker → Result (Result ⊤ Fault) Missed → Type 0
LeaveCame old new came = (is_some old.client.current ≡ true → (came ≡ Ok (Err faults.ReadOpen)) × (new ≡ old))
    × (old.client.current ≡ None → Came old new came (λ done. Leaves old.client new.client done))

-- it keeps the core from now on, or it did nothing
abbrev pub LeaseCame : Worker → Worker → Result ⊤ Missed → Type 0
LeaseCame old new came = OnOk came ((new ≡ record old { lease = new.lease }) × (is_some new.lease ≡ true))
    × (is_some old.lease ≡ true → IsOk came × (new ≡ old))
    × OnErr came (DidNothing old new)

-- a write goes into the private copy, or it is refused
abbrev pub WriteCame : {X : Type 0} → Worker → Worker → Object → Option Row → Result ⊤ (Refused X) → Type 0
WriteCame old new object row came = (new ≡ record old { client = new.client }) × MatchResult came
    (λ done. (new.client ≡ record old.client { current = written old.client.current object row; returned = new.client.returned })
    × (write_fault old.settings.schema object row old.client.current ≡ None))
    (λ refused. IsKept old.client new.client
    × (((old.client.returned ≡ true) × (refused.fault ≡ faults.Memory)) ⊎ IsRefusedBy (write_fault old.settings.schema object row old.client.current) (WantsRoom object old.client.current) refused.fault))
