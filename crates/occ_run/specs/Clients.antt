-- What a client hands in, and what it is told (our own choice).
use Rattle.std.specs.Prelude.{◌≡◌, ◌⊎◌, ◌+◌, ◌≤◌, ◌==◌, ℕ, suc, Bool, true, false, if◌then◌else◌, List, [], ◌∷◌, ◌++◌, length, Some, Result, Ok, Err}
use Rattle.std.specs.List.{flat_map}
use Rattle.occ_types.specs.declared.fault.Fault.{Fault}
use Rattle.occ_types.specs.declared.fault.Fault.TheVariants as faults
use Rattle.occ_model.specs.Event.{Item, Alone, Close}
use Rattle.occ_model.specs.Operations.{Operation}
use Rattle.occ_model.specs.declared.verdict.Verdict.{Verdict}
use Rattle.occ_model.specs.declared.verdict.Verdict.TheVariants.{Commit, BackUp}
use Rattle.occ_model.specs.declared.verdict.Cause.{Cause}
use Rattle.occ_open.specs.Transactions.{begun}
use Rattle.occ_history.specs.History.{Happened, FrontView, Client, Begins}
use Rattle.occ_store.specs.Accounts.{HasSeen}
use Rattle.occ_store.specs.Names.{Named}
use Rattle.occ_store.specs.Standing.{GoesOnTo}
use Rattle.occ_store.specs.Frames.{unseeing}
use Rattle.occ_store.specs.Sessions.{SessionView, last_number}
use Rattle.occ_store.specs.Transactions.{TransactionView}
use Rattle.occ_store.specs.Bodies.{Making, Becoming, Performing}
use Rattle.occ_store.specs.Tries.{AllMade}
use Rattle.occ_store.specs.Ended.{IsTold}
use Rattle.occ_case.specs.declared.ended.Ended as code_ended
use Rattle.occ_case.specs.declared.ended.Ended.TheVariants as ended
use Rattle.occ_store.specs.declared.awaited.Awaited.{Awaited}
use Rattle.occ_store.specs.declared.awaited.Awaited.TheVariants as awaited
use Rattle.occ_run.specs.Plans.{Planned}
use Rattle.occ_run.specs.declared.ends.Try.{Try}
use Rattle.occ_run.specs.declared.ends.Try.TheVariants.{Refused, Committed, BackedUp}
use Rattle.occ_run.specs.declared.ends.Failure.{Failure}
use Rattle.occ_run.specs.declared.ends.Failure.TheVariants as failures
use Rattle.occ_run.specs.declared.ends.Stop.{Stop}
use Rattle.occ_run.specs.declared.ends.Stop.TheVariants as stops
use Rattle.occ_run.specs.declared.ends.End.{End}
use Rattle.occ_run.specs.declared.ends.End.TheVariants.{Unstarted, Closed, GaveUp, Starved}

-- ---- the tries of a transaction

-- Why a client gives up at a fault of the store: for want of memory it is starved, and at no other one.
abbrev pub IsStopOf : Fault → Stop → Type 0
IsStopOf fault stops.Memory = fault ≡ faults.Memory
IsStopOf fault stops.Patience = fault ≡ faults.Memory → ⊥

-- what a fault of the store comes to, beside a refused operation
abbrev pub failing : Becoming Failure
failing fault (failures.Refused told) = ⊥
failing fault (failures.Stopped stop) = IsStopOf fault stop

-- what a refused operation comes to: for want of memory the client gives up
abbrev pub IsUnmade : Fault → Failure → Type 0
IsUnmade fault (failures.Refused told) = (told ≡ fault) × (fault ≡ faults.Memory → ⊥)
IsUnmade fault (failures.Stopped stop) = (stop ≡ stops.Memory) × (fault ≡ faults.Memory)

-- a run of the operations performs them, or ends at the first that is refused
abbrev pub Attempting : Named → List Operation → Making (Unit {0}) Failure
Attempting named operations before (Ok none) after = Performing named operations before (Ok none) after
Attempting named operations before (Err failure) after = (fault : Fault) × IsUnmade fault failure × Performing named operations before (Err fault) after

-- So many requests of a session, and nothing else, each of which was made by a run that performed the operations. What the runs were answered stands in the history, one after another, from what was seen before to what was seen then.
pub record Requests (named : Named) (session : ℕ) (operations : List Operation) (count : ℕ) (items : List Item) (from to : FrontView) : Type 0 where
  pub many : length items ≡ count
  pub made : AllMade (Performing named operations) session items from to

-- An operation was refused, by another fault than for want of memory, in a run of the operations in a transaction that the session began, which had seen this before. What is seen then goes on from what the run saw.
abbrev pub HasRefused : Named → ℕ → List Operation → FrontView → FrontView → Type 0
HasRefused named session operations from to = (fault : Fault) × (fault ≡ faults.Memory → ⊥) × (number : ℕ) × (start : ℕ) × (after : TransactionView)
    × Performing named operations (record { session = session; draft = Some (begun number start); front = from }) (Err fault) after × GoesOnTo after.front to

-- these items were handed in, behind those of before
pub record Pushes (items : List Item) (old new : SessionView) : Type 0 where
  pub before : new.sender.before ≡ old.sender.before
  pub pushed : new.sender.pushed ≡ old.sender.pushed ++ items
  pub session : new.session ≡ old.session

-- the board told how what was handed in last ended
pub record Told (verdict : Verdict) (session : SessionView) : Type 0 where
  pub number : session.seat.last.number ≡ last_number session
  pub status : session.seat.last.status ≡ Some verdict

-- What a try came to, behind what was asked for the requests until then. Where one of its operations was refused, nothing was handed in.
abbrev pub CameTo : Named → List Operation → FrontView → Try → SessionView → Type 0
CameTo named operations asked Refused session = HasRefused named session.session operations asked session.front
CameTo named operations asked Committed session = (session.front ≡ asked) × Told Commit session
CameTo named operations asked BackedUp session = (session.front ≡ asked) × ((cause : Cause) × Told (BackUp cause) session)

-- how many requests a try hands in
abbrev pub handed_by : Try → ℕ
handed_by Refused = 0
handed_by Committed = 1
handed_by BackedUp = 1

-- how a transaction ended whose run answers nothing
abbrev pub Ended : Type 0
Ended = code_ended.Ended (Unit {0})

-- what came of a try that handed in nothing
abbrev pub not_handed_in : Failure → Result Try Stop
not_handed_in (failures.Refused fault) = Ok Refused
not_handed_in (failures.Stopped stop) = Err stop

-- and of one that was handed in
abbrev pub try_of : Ended → Try
try_of (ended.Committed tn none) = Committed
try_of (ended.BackedUp cause) = BackedUp

-- what came of waiting ended so: it had ended so before, or the board tells it
abbrev pub ComesTo : SessionView → Awaited (Unit {0}) → Ended → SessionView → Type 0
ComesTo old (awaited.Settled was) how new = (how ≡ was) × (new ≡ old)
ComesTo old (awaited.Pending pending) how new = IsTold new.seat.last pending.number pending.value how

-- a try, behind so many that were backed up
pub record Tries (named : Named) (operations : List Operation) (count : ℕ) (tried : Try) (old new : SessionView) : Type 0 where
  pub items : List Item
  pub asked : FrontView
  pub pushes : Pushes items old new
  pub requests : Requests named old.session operations (count + handed_by tried) items old.front asked
  pub came : CameTo named operations asked tried new

-- the last of at most `retries + 1` tries, which is backed up only where all were
pub record LastTry (named : Named) (operations : List Operation) (retries : ℕ) (tried : Try) (old new : SessionView) : Type 0 where
  pub count : ℕ
  pub within : count ≤ retries
  pub tries : Tries named operations count tried old new
  pub all : tried ≡ BackedUp → count ≡ retries

-- operations were handed in to run alone, and committed; the session saw nothing of the history by that
pub record RunsAlone (operations : List Operation) (old new : SessionView) : Type 0 where
  pub number : ℕ
  pub pushes : Pushes (Alone number operations ∷ []) old new
  pub told : Told Commit new
  pub same : new.front ≡ old.front

-- What is handed in for a transaction, by whether one of its operations was refused: a request for each try before that one; or for each up to the one that committed; or for each that there may be, and then the operations to run alone. Each request was made by a run that performed the operations, in the history that goes on from what was seen before to what was seen then.
abbrev pub HandsIn : Named → ℕ → ℕ → List Operation → Bool → List Item → FrontView → FrontView → Type 0
HandsIn named retries session operations true items from to = (count : ℕ) × (asked : FrontView) × (count ≤ retries)
    × Requests named session operations count items from asked × HasRefused named session operations asked to
HandsIn named retries session operations false items from to =
    ((count : ℕ) × (count ≤ retries) × Requests named session operations (count + 1) items from to)
    ⊎ ((tries : List Item) × (number : ℕ) × Requests named session operations (retries + 1) tries from to × (items ≡ tries ++ Alone number operations ∷ []))

-- a transaction is over: one of its operations was refused, or it committed
pub record PlanGives (named : Named) (retries : ℕ) (operations : List Operation) (refused : Bool) (old new : SessionView) : Type 0 where
  pub items : List Item
  pub pushes : Pushes items old new
  pub hands_in : HandsIn named retries old.session operations refused items old.front new.front
  pub told : refused ≡ false → Told Commit new

-- ---- all transactions of a session

-- the operations of a transaction, where it is the session's
abbrev pub own_plan : ℕ → Planned → List (List Operation)
own_plan session plan = if plan.session == session then plan.operations ∷ [] else []

-- those of all transactions of a session, in the order of their lines
abbrev pub own : ℕ → List Planned → List (List Operation)
own session plans = flat_map (own_plan session) plans

abbrev pub one_if : Bool → ℕ
one_if true = 1
one_if false = 0

-- What is handed in for one transaction after another, and how many of them were refused. Each goes on from what was seen when the one before it was over.
abbrev pub Plays : Named → ℕ → ℕ → List (List Operation) → ℕ → List Item → FrontView → FrontView → Type 0
Plays named retries session [] refused items from to = (refused ≡ 0) × (items ≡ []) × (to ≡ from)
Plays named retries session (operations ∷ more) refused items from to =
    (was : Bool) × (first : List Item) × (others : ℕ) × (rest : List Item) × (between : FrontView)
    × HandsIn named retries session operations was first from between × Plays named retries session more others rest between to × (refused ≡ one_if was + others) × (items ≡ first ++ rest)

pub record Played (named : Named) (retries : ℕ) (transactions : List (List Operation)) (refused : ℕ) (old new : SessionView) : Type 0 where
  pub items : List Item
  pub pushes : Pushes items old new
  pub plays : Plays named retries old.session transactions refused items old.front new.front

-- it handed in nothing yet, and has seen nothing of the history
abbrev pub IsFresh : SessionView → Type 0
IsFresh session = (session.sender.pushed ≡ []) × (session.front ≡ unseeing (Client session.session))

-- All that a session handed in by its end: what its transactions ask for, so many of which were refused, and the closing mark. What it was answered stands in the history, from its beginning to what the session has seen.
pub record HasPlayed (named : Named) (retries : ℕ) (plans : List Planned) (session refused : ℕ) (pushed : List Item) (seen : FrontView) : Type 0 where
  pub items : List Item
  pub number : ℕ
  pub plays : Plays named retries session (own session plans) refused items (unseeing (Client session)) seen
  pub closed : pushed ≡ items ++ Close number ∷ []

-- what clauses see of a client: its session, how many of its transactions had an operation that was refused, and how it ended
pub record ClientView : Type 0 where
  pub session : SessionView
  pub refused : ℕ
  pub end : End

-- How a client ended, as its session and its count have it. A session may have seen more since it closed.
abbrev pub EndsAs : Named → ℕ → List Planned → End → ℕ → SessionView → Type 0
EndsAs named retries plans Unstarted refused session = IsFresh session
EndsAs named retries plans Closed refused session = (seen : FrontView) × (session.front.party ≡ seen.party) × Begins seen session.front × HasPlayed named retries plans session.session refused session.sender.pushed seen
EndsAs named retries plans GaveUp refused session = Unit {0}
EndsAs named retries plans Starved refused session = Unit {0}

-- how it ends, and its count, by what stopped it: for want of memory it is starved, and for no other reason
abbrev pub ended_by : Result ℕ Stop → End × ℕ
ended_by (Ok refused) = (Closed, refused)
ended_by (Err stops.Patience) = (GaveUp, 0)
ended_by (Err stops.Memory) = (Starved, 0)

-- ---- the clients of a run

-- a session has played in this history: what it had seen by its end is a beginning of it, with all of its client's own events
abbrev pub PlayedIn : Named → ℕ → List Planned → List Happened → ℕ → ℕ → Type 0
PlayedIn named retries plans story session refused = (pushed : List Item) × (seen : FrontView) × HasSeen story seen × HasPlayed named retries plans session refused pushed seen

-- so have the sessions from a number on, of each of which is told how many of its transactions had an operation that was refused
abbrev pub AllPlayed : Named → ℕ → List Planned → List Happened → ℕ → List ℕ → Type 0
AllPlayed named retries plans story session [] = Unit {0}
AllPlayed named retries plans story session (refused ∷ more) = PlayedIn named retries plans story session refused × AllPlayed named retries plans story (suc session) more

-- whether a client wanted memory, or its thread never began
abbrev pub starved : End → Bool
starved Unstarted = true
starved Closed = false
starved GaveUp = false
starved Starved = true

abbrev pub is_starved : ClientView → Bool
is_starved client = starved client.end

-- its session, where a client gave up
abbrev pub if_gave_up : End → ℕ → List ℕ
if_gave_up Unstarted session = []
if_gave_up Closed session = []
if_gave_up GaveUp session = session ∷ []
if_gave_up Starved session = []

abbrev pub gave_up : ClientView → List ℕ
gave_up client = if_gave_up client.end client.session.session
