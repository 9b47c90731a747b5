-- What clauses see of a worker, and what it does (our own choice).
use Rattle.std.specs.Prelude.{◌≡◌, ◌⊎◌, ℕ, suc, zero, ◌+◌, ◌<◌, nat_lt, false, List, [], ◌∷◌, length, Option, None, Some, Result, Ok, Err, is_some}
use Rattle.occ_types.specs.declared.fault.Fault.{Fault}
use Rattle.occ_types.specs.declared.fault.Fault.TheVariants as faults
use Rattle.occ_types.specs.declared.limits.TheConstants.{MAX_OPERATIONS}
use Rattle.occ_types.specs.Schema.{Schema, fault_if, first_fault}
use Rattle.occ_model.specs.Operations.{Operation}
use Rattle.occ_model.specs.Event.{Item, Request, Alone, Close, Event, Enter, Decide, WriteOne, Finish, BackUp, Forget, SerialEnd, Checkpoint, Reply, Refused, Entered, Finished, BackedUp, EndedBack, RanAlone, Folded}
use Rattle.occ_model.specs.Event as events
use Rattle.occ_model.specs.World.{active_count}
use Rattle.occ_model.specs.Refusal.{numbers_exhausted, check_operations}
use Rattle.occ_model.specs.Replies.{replied}
use Rattle.occ_model.specs.declared.verdict.Verdict.{Verdict}
use Rattle.occ_model.specs.declared.verdict.Cause.{Cause}
use Rattle.occ_model.specs.declared.verdict.Verdict.TheVariants as verdicts
use Rattle.occ_sets.specs.Sets.{Copied}
use Rattle.occ_open.specs.Transactions.{begun}
use Rattle.occ_queue.specs.Items.{number_of, is_mark}
use Rattle.occ_board.specs.declared.rule.Seen.{Seen}
use Rattle.occ_core.specs.declared.outcomes.Outcome as code_outcome
use Rattle.occ_core.specs.declared.outcomes.Outcome.TheVariants as outcomes
use Rattle.occ_core.specs.AutoCheckpoints.{no_checkpoints, is_due, counted, checked_point}
use Rattle.occ_core.specs.declared.auto_checkpoints.AutoCheckpoint.{AutoCheckpoint}
use Rattle.occ_store.specs.Locked.{Locked, world_of, rows_entered, Happens, EntersAs, BacksUp}
use Rattle.occ_history.specs.History.{FrontView, Happened}
use Rattle.occ_history.specs.Clauses.{StandInOrder}
use Rattle.occ_store.specs.Names.{Named, opened_as}
use Rattle.occ_store.specs.Standing.{StandsIn, StoodBetween, GoesOnTo}
use Rattle.occ_store.specs.Sessions.{request}
use Rattle.occ_store.specs.Transactions.{TransactionView}
use Rattle.occ_store.specs.Bodies.{Making, Becoming, ComesOf, stays_fault, Performing}
use Rattle.occ_store.specs.Lanes.{Left, Nothing, Kept, Open, Decided, number_left}
use Rattle.occ_store.specs.Tries.{IsMade, IsLastTry}
use Rattle.occ_case.specs.Ended.{answering}
use Rattle.occ_case.specs.declared.ended.Ended as code_ended
use Rattle.occ_case.specs.declared.ended.Ended.TheVariants as ends

-- Its number and the tables of its store; what its seat has seen of the board; the number that it began behind, and that of the last transaction that it handed in; how many rows it entered; what an error left; its checkpoints; and what it has seen of the history.
pub record WorkerView : Type 0 where
  pub session : ℕ
  pub schema : Schema
  pub seat : Seen
  pub first : ℕ
  pub last : ℕ
  pub entered : ℕ
  pub left : Left
  pub checkpoints : AutoCheckpoint
  pub front : FrontView

-- one that handed in nothing yet, behind a number
abbrev pub unused_worker : ℕ → Schema → Seen → ℕ → FrontView → WorkerView
unused_worker session schema seat last front = record { session = session; schema = schema; seat = seat; first = last; last = last; entered = 0; left = Nothing; checkpoints = no_checkpoints; front = front }

-- how many items are left that have not entered
abbrev pub unentered : Left → ℕ
unentered Nothing = 0
unentered (Kept item) = 1
unentered (Open number token) = 0
unentered (Decided number verdict) = 0

-- what was handed in is the rows that entered, and the item that has not
abbrev pub HandedIn : ℕ → ℕ → ℕ → Left → Type 0
HandedIn first last entered left = last ≡ first + (entered + unentered left)

-- what is left is no closing mark
abbrev pub IsUnmarked : Left → Type 0
IsUnmarked Nothing = Unit {0}
IsUnmarked (Kept item) = is_mark item ≡ false
IsUnmarked (Open number token) = Unit {0}
IsUnmarked (Decided number verdict) = Unit {0}

-- what is left is a row under this number, whose case was not filed
abbrev pub IsRow : ℕ → Left → Type 0
IsRow last Nothing = ⊥
IsRow last (Kept item) = ⊥
IsRow last (Open number token) = (number ≡ last) × (token ≡ None)
IsRow last (Decided number verdict) = number ≡ last

-- what came of an item is not that a closing mark entered
module _ {Z : Type 0} where
  abbrev pub IsUnmarkedOutcome : code_outcome.Outcome Z → Type 0
  IsUnmarkedOutcome outcomes.MarkedClosed = ⊥
  IsUnmarkedOutcome outcome = Unit {0}

-- something is left, under the number of the last one
abbrev pub IsKept : WorkerView → Type 0
IsKept worker = number_left worker.left ≡ Some worker.last

-- with an item held, which is handed in under its number
abbrev pub holding : WorkerView → Item → WorkerView
holding worker item = record worker { last = number_of item; left = Kept item }

-- why none is begun, and why operations don't run alone
abbrev pub begin_fault : WorkerView → Option Fault
begin_fault worker = numbers_exhausted (worker.last + 1)

abbrev pub alone_fault : WorkerView → List Operation → Option Fault
alone_fault worker operations = first_fault (
    numbers_exhausted (worker.last + 1)
    ∷ fault_if (nat_lt MAX_OPERATIONS (length operations)) faults.SetFull
    ∷ check_operations worker.schema operations
    ∷ [])

-- ---- how a transaction ends

-- how it ended, without what its run answered
abbrev pub End : Type 0
End = code_ended.Ended (Unit {0})

-- what is replied to an event that is refused
abbrev pub IsRefused : Reply → Type 0
IsRefused (Refused fault) = Unit {0}
IsRefused reply = ⊥

-- each of these events was refused; or is a single write, or was refused
abbrev pub AreRefused : List Happened → Type 0
AreRefused [] = Unit {0}
AreRefused (happened ∷ others) = IsRefused happened.1 × AreRefused others

abbrev pub AreWrites : ℕ → List Happened → Type 0
AreWrites session [] = Unit {0}
AreWrites session (happened ∷ others) = ((happened.0 ≡ WriteOne session) ⊎ IsRefused happened.1) × AreWrites session others

-- events of its own, each of which was refused
abbrev pub Refusals : Named → FrontView → FrontView → Type 0
Refusals named from to = (events : List Happened) × AreRefused events × StandInOrder (opened_as named) from events to

-- single writes of its own, and events that were refused
abbrev pub Writes : Named → ℕ → FrontView → FrontView → Type 0
Writes named session from to = (events : List Happened) × AreWrites session events × StandInOrder (opened_as named) from events to

-- an event stands in the history, and of its own nothing between but what was refused
abbrev pub StandsAfter : Named → FrontView → Event → Reply → FrontView → Type 0
StandsAfter named from event reply to = (at : FrontView) × Refusals named from at × StandsIn named at event reply to

-- A row that was decided so came to this end: its writes were done, and it finished; or it was backed up.
abbrev pub Concludes : Named → ℕ → Verdict → End → FrontView → FrontView → Type 0
Concludes named session verdicts.Commit (ends.Committed tn none) from to = (written : FrontView) × Writes named session from written
    × StandsIn named written (Finish session) (Finished tn) to
Concludes named session verdicts.Commit (ends.BackedUp cause) from to = ⊥
Concludes named session (verdicts.BackUp kept) (ends.Committed tn none) from to = ⊥
Concludes named session (verdicts.BackUp kept) (ends.BackedUp cause) from to = (cause ≡ kept) × ((number : ℕ) × StandsAfter named from (BackUp session) (BackedUp number) to)

-- a row that had entered was decided, and came to this end
abbrev pub DecidedSo : Named → ℕ → End → FrontView → FrontView → Type 0
DecidedSo named session ended from to = (verdict : Verdict) × (at : FrontView) × StandsAfter named from (Decide session) (events.Decided verdict) at
    × Concludes named session verdict ended at to

-- an item has its first event: it ends serially, or enters
abbrev pub ComesIn : Named → ℕ → Item → FrontView → Reply → FrontView → Type 0
ComesIn named session item from reply to = StandsIn named from (SerialEnd session item) reply to ⊎ StandsIn named from (Enter session item) reply to

-- the reply that tells this end of an event that ends an item at once
abbrev pub EndsAtOnce : Reply → End → Type 0
EndsAtOnce (Finished tn) ended = ended ≡ ends.Committed tn tt
EndsAtOnce (EndedBack cause) ended = ended ≡ ends.BackedUp cause
EndsAtOnce (RanAlone tn answers) ended = ended ≡ ends.Committed tn tt
EndsAtOnce reply ended = ⊥

-- An item of a session is over, and ended so: in one event, serially or alone; or it entered, its row was decided, and came to this end, each by an event of its own. Of the session's own nothing else happened in between but what was refused.
abbrev pub Over : Named → ℕ → Item → End → FrontView → FrontView → Type 0
Over named session item ended from to =
    ((reply : Reply) × (at : FrontView) × Refusals named from at × ComesIn named session item at reply to × EndsAtOnce reply ended)
    ⊎ ((place index : ℕ) × (at : FrontView) × StandsAfter named from (Enter session item) (Entered place index) at × DecidedSo named session ended at to)

-- what was left is over
abbrev pub LeftIsOver : Named → ℕ → Left → End → FrontView → FrontView → Type 0
LeftIsOver named session Nothing ended from to = ⊥
LeftIsOver named session (Kept item) ended from to = Over named session item ended from to
LeftIsOver named session (Open number token) ended from to = DecidedSo named session ended from to
LeftIsOver named session (Decided number verdict) ended from to = Concludes named session verdict ended from to

abbrev pub LeftOver : Named → WorkerView → Option End → FrontView → Type 0
LeftOver named worker None to = (worker.left ≡ Nothing) × (to ≡ worker.front)
LeftOver named worker (Some ended) to = LeftIsOver named worker.session worker.left ended worker.front to

-- Something is left of a worker, and comes to the end that what was left before comes to. Nothing else of the worker changed but how many rows it entered, and what it has seen.
pub record GoesOn (named : Named) (old new : WorkerView) : Type 0 where
  pub kept : IsKept new
  pub same : new ≡ record old { left = new.left; entered = new.entered; front = new.front }
  pub counted : new.entered + unentered new.left ≡ old.entered + unentered old.left
  pub seen : GoesOnTo old.front new.front
  pub over : (ended : End) (to : FrontView) → LeftIsOver named new.session new.left ended new.front to → LeftIsOver named old.session old.left ended old.front to

-- ---- one event of a worker, on the locked state

-- what is left of an item by the reply to its first event
abbrev pub left_taking : Item → Reply → Left
left_taking item (Refused fault) = Kept item
left_taking item (Entered place index) = Open (number_of item) None
left_taking item reply = Nothing

-- The first event of an item answers its fault, or how the transaction ended; or none where its row entered, since there is more to be done then. No other reply comes to an item that is no closing mark.
abbrev pub IsAnswered : Reply → Result (Option End) Fault → Type 0
IsAnswered (Refused fault) result = result ≡ Err fault
IsAnswered (Entered place index) result = result ≡ Ok None
IsAnswered (Finished tn) result = result ≡ Ok (Some (ends.Committed tn tt))
IsAnswered (EndedBack cause) result = result ≡ Ok (Some (ends.BackedUp cause))
IsAnswered (RanAlone tn answers) result = result ≡ Ok (Some (ends.Committed tn tt))
IsAnswered reply result = ⊥

-- the same of a single write, after which there is always more to be done
abbrev pub IsWritten : Reply → Result (Option End) Fault → Type 0
IsWritten (Refused fault) result = result ≡ Err fault
IsWritten reply result = result ≡ Ok None

-- the same of a finish
abbrev pub IsFinished : Reply → Result (Option End) Fault → Type 0
IsFinished (Refused fault) result = result ≡ Err fault
IsFinished (Finished tn) result = result ≡ Ok (Some (ends.Committed tn tt))
IsFinished reply result = ⊥

-- the same of a back-up for this cause
abbrev pub IsAnsweredBack : Cause → Reply → Result (Option End) Fault → Type 0
IsAnsweredBack cause (Refused fault) result = result ≡ Err fault
IsAnsweredBack cause (BackedUp number) result = result ≡ Ok (Some (ends.BackedUp cause))
IsAnsweredBack cause reply result = ⊥

-- An item ends serially where no row is active, and else enters, without a case that is filed.
abbrev pub Takes : FrontView → ℕ → Item → Locked → Reply → FrontView → Locked → Type 0
Takes me session item old reply now new = ((active_count (world_of old) ≡ 0) × Happens me old session (SerialEnd session item) reply now new)
    ⊎ EntersAs me old session item None reply now new

-- What it makes of the worker that has it: it is left as its reply says, and its row is counted.
abbrev pub TakesIn : WorkerView → Item → Locked → Result (Option End) Fault → WorkerView → Locked → Type 0
TakesIn worker item old result after new = (reply : Reply)
    × Takes worker.front worker.session item old reply after.front new
    × IsAnswered reply result
    × (after ≡ record worker { left = left_taking item reply; entered = worker.entered + rows_entered reply; front = after.front })

-- A row is decided, and stays as it is at a fault.
abbrev pub left_deciding : ℕ → Result Verdict Fault → Left
left_deciding number (Ok verdict) = Decided number verdict
left_deciding number (Err fault) = Open number None

abbrev pub answer_deciding : Result Verdict Fault → Result (Option End) Fault
answer_deciding (Ok verdict) = Ok None
answer_deciding (Err fault) = Err fault

abbrev pub DecidesSo : WorkerView → ℕ → Locked → Result (Option End) Fault → WorkerView → Locked → Type 0
DecidesSo worker number old result after new = (decided : Result Verdict Fault)
    × Happens worker.front old worker.session (Decide worker.session) (replied events.Decided decided) after.front new
    × (result ≡ answer_deciding decided)
    × (after ≡ record worker { left = left_deciding number decided; front = after.front })

-- what is left of a decided row: nothing once it is over
abbrev pub left_concluding : ℕ → Verdict → Result (Option End) Fault → Left
left_concluding number verdict (Ok (Some ended)) = Nothing
left_concluding number verdict (Ok None) = Decided number verdict
left_concluding number verdict (Err fault) = Decided number verdict

-- the row of a session that is decided to commit does its next single write, or finishes
abbrev pub Commits : FrontView → ℕ → Locked → Result (Option End) Fault → FrontView → Locked → Type 0
Commits me session old result now new = ((reply : Reply) × Happens me old session (WriteOne session) reply now new × IsWritten reply result)
    ⊎ ((reply : Reply) × Happens me old session (Finish session) reply now new × IsFinished reply result)

-- A row that is decided does its next single write, finishes, or is backed up for the cause that was kept.
abbrev pub ConcludesAs : WorkerView → ℕ → Verdict → Locked → Result (Option End) Fault → WorkerView → Locked → Type 0
ConcludesAs worker number verdicts.Commit old result after new = Commits worker.front worker.session old result after.front new
    × (after ≡ record worker { left = left_concluding number verdicts.Commit result; front = after.front })
ConcludesAs worker number (verdicts.BackUp cause) old result after new = (reply : Reply)
    × BacksUp worker.front old worker.session cause reply after.front new
    × IsAnsweredBack cause reply result
    × (after ≡ record worker { left = left_concluding number (verdicts.BackUp cause) result; front = after.front })

-- One event of what is left, on the locked state.
abbrev pub Advances : WorkerView → Left → Locked → Result (Option End) Fault → WorkerView → Locked → Type 0
Advances worker Nothing old result after new = (result ≡ Err faults.NothingEntered) × (after ≡ worker)
Advances worker (Kept item) old result after new = TakesIn worker item old result after new
Advances worker (Open number token) old result after new = DecidesSo worker number old result after new
Advances worker (Decided number verdict) old result after new = ConcludesAs worker number verdict old result after new

-- One event of what is left, as it stands in the history.
abbrev pub HappensTo : Named → WorkerView → Left → Result (Option End) Fault → WorkerView → Type 0
HappensTo named worker Nothing result after = (result ≡ Err faults.NothingEntered) × (after ≡ worker)
HappensTo named worker (Kept item) result after = (reply : Reply)
    × ComesIn named worker.session item worker.front reply after.front
    × IsAnswered reply result
    × (after ≡ record worker { left = left_taking item reply; entered = worker.entered + rows_entered reply; front = after.front })
HappensTo named worker (Open number token) result after = (decided : Result Verdict Fault)
    × StandsIn named worker.front (Decide worker.session) (replied events.Decided decided) after.front
    × (result ≡ answer_deciding decided)
    × (after ≡ record worker { left = left_deciding number decided; front = after.front })
HappensTo named worker (Decided number verdicts.Commit) result after =
    (((reply : Reply) × StandsIn named worker.front (WriteOne worker.session) reply after.front × IsWritten reply result)
    ⊎ ((reply : Reply) × StandsIn named worker.front (Finish worker.session) reply after.front × IsFinished reply result))
    × (after ≡ record worker { left = left_concluding number verdicts.Commit result; front = after.front })
HappensTo named worker (Decided number (verdicts.BackUp cause)) result after = (reply : Reply)
    × StandsIn named worker.front (BackUp worker.session) reply after.front
    × IsAnsweredBack cause reply result
    × (after ≡ record worker { left = left_concluding number (verdicts.BackUp cause) result; front = after.front })

-- ---- what an error leaves of an item

-- an item entered, in an event of its own
abbrev pub HasEntered : Named → ℕ → Item → FrontView → FrontView → Type 0
HasEntered named session item from to = (place index : ℕ) × StoodBetween named from (Enter session item) (Entered place index) to

-- What is left of an item of a session that was handed in: the item; or its row, which entered, and was decided where there is a verdict.
abbrev pub LeftOf : Named → ℕ → Item → Left → FrontView → FrontView → Type 0
LeftOf named session item Nothing from to = ⊥
LeftOf named session item (Kept kept) from to = (kept ≡ item) × GoesOnTo from to
LeftOf named session item (Open number token) from to = (number ≡ number_of item) × HasEntered named session item from to
LeftOf named session item (Decided number verdict) from to = (number ≡ number_of item) × HasEntered named session item from to
    × StoodBetween named from (Decide session) (events.Decided verdict) to

-- what was left of an item is still left of it
abbrev pub StaysLeft : Named → WorkerView → WorkerView → Type 0
StaysLeft named old new = (item : Item) (from : FrontView) → LeftOf named old.session item old.left from old.front → LeftOf named old.session item new.left from new.front

-- ---- tries

-- no request was handed in: nothing changes but what the seat saw, what the worker entered, what is left, its checkpoints, and what it has seen of the history
abbrev pub HandsInNone : WorkerView → WorkerView → Type 0
HandsInNone old new = new ≡ record old { seat = new.seat; entered = new.entered; left = new.left; checkpoints = new.checkpoints; front = new.front }

-- a request was made under the next number, by a run that answered the value
abbrev pub Makes : {Value Error : Type 0} → Making Value Error → WorkerView → Item → Value → FrontView → FrontView → Type 0
Makes Made worker item value from to = (number_of item ≡ worker.last + 1) × IsMade Made worker.session value item from to

-- One request was handed in, which was made so. Nothing else changes but what the seat saw, what the worker entered, what is left, its checkpoints, and what it has seen of the history.
abbrev pub HandsInOne : {Value Error : Type 0} → Making Value Error → WorkerView → Item → Value → FrontView → FrontView → WorkerView → Type 0
HandsInOne Made old item value from to new = Makes Made old item value from to
    × (new ≡ record old { seat = new.seat; last = old.last + 1; entered = new.entered; left = new.left; checkpoints = new.checkpoints; front = new.front })

-- nothing was left, or it came to its end
abbrev pub IsEnded : Named → ℕ → Left → FrontView → FrontView → Type 0
IsEnded named session Nothing from to = to ≡ from
IsEnded named session (Kept item) from to = (ended : End) × Over named session item ended from to
IsEnded named session (Open number token) from to = (ended : End) × DecidedSo named session ended from to
IsEnded named session (Decided number verdict) from to = (ended : End) × Concludes named session verdict ended from to

-- so is what was left before a try, and this is what was seen then
abbrev pub EndsLeft : Named → WorkerView → FrontView → Type 0
EndsLeft named worker to = IsEnded named worker.session worker.left worker.front to

-- A try: what was left is ended; then a run makes a request; and it is over in the store, and ended so, with the value that the very run answered which made it. Nothing is left.
pub record TriesOnce {Value Error : Type 0} (named : Named) (Made : Making Value Error) (old : WorkerView) (ended : code_ended.Ended Value) (new : WorkerView) : Type 0 where
  pub item : Item
  pub value : Value
  pub from : FrontView
  pub made : FrontView
  pub first : EndsLeft named old from
  pub handed_in : HandsInOne Made old item value from made new
  pub how : End
  pub over : Over named old.session item how made new.front
  pub told : ended ≡ answering value how
  pub nothing_left : new.left ≡ Nothing

-- the transaction that it begins, as it is lent to a body
abbrev pub lent : WorkerView → ℕ → FrontView → TransactionView
lent worker start front = record { session = worker.session; draft = Some (begun (worker.last + 1) start); front = front }

-- a request is what a transaction of this number became
abbrev pub IsRequestOf : Option Copied → ℕ → Item → Type 0
IsRequestOf draft number item = (copy : Copied) × (draft ≡ Some copy) × (copy.number ≡ number) × (item ≡ request copy)

-- the state forgets what was read under a number
abbrev pub Forgets : Named → ℕ → ℕ → FrontView → FrontView → Type 0
Forgets named session number from to = (reply : Reply) × StandsIn named from (Forget session number) reply to

-- A run failed, by its own error, or since it left another transaction than the one that was lent to it; and the state forgets what it read.
abbrev pub RunFails : {Value Error : Type 0} → Named → Making Value Error → Becoming Error → WorkerView → FrontView → Error → FrontView → Type 0
RunFails {Value} {Error} named Made Becomes worker from error to = (start : ℕ) × (ran : Result Value Error) × (after : TransactionView)
    × Made (lent worker start from) ran after × ((ran ≡ Err error) ⊎ Becomes faults.OutOfTurn error)
    × Forgets named worker.session (worker.last + 1) after.front to

-- why no request is made: none may begin; or a run failed
abbrev pub NotMade : {Value Error : Type 0} → Making Value Error → Becoming Error → Named → WorkerView → FrontView → Error → FrontView → Type 0
NotMade Made Becomes named worker from error to = (ComesOf Becomes (λ fault. begin_fault worker ≡ Some fault) error × (to ≡ from))
    ⊎ RunFails named Made Becomes worker from error to

-- an error is what became of a fault that an event met, and what it was to end is left
abbrev pub IsStopped : {Error : Type 0} → Becoming Error → Error → WorkerView → Type 0
IsStopped Becomes error worker = ComesOf Becomes (λ fault. IsKept worker) error

-- a try that was refused where what was left before is ended, which is left
abbrev pub LeavesFirst : {Error : Type 0} → Becoming Error → WorkerView → Error → WorkerView → Type 0
LeavesFirst Becomes old error new = HandsInNone old new × GoesOnTo old.front new.front × IsStopped Becomes error new

-- a try of which no request is made: what was left came to its end before, and nothing is left
abbrev pub MakesNone : {Value Error : Type 0} → Named → Making Value Error → Becoming Error → WorkerView → Error → WorkerView → Type 0
MakesNone named Made Becomes old error new = HandsInNone old new × (new.left ≡ Nothing)
    × ((from : FrontView) × EndsLeft named old from × NotMade Made Becomes named old from error new.front)

-- a try that was refused where its request was handed in, which is left
abbrev pub LeavesOne : {Value Error : Type 0} → Named → Making Value Error → WorkerView → WorkerView → Type 0
LeavesOne {Value} named Made old new = (item : Item) × (value : Value) × (from : FrontView) × (made : FrontView) × EndsLeft named old from
    × HandsInOne Made old item value from made new × LeftOf named old.session item new.left made new.front

-- A try was refused with this error: it handed in none, since what was left before is left still, or no request is made; or the one that it handed in is left.
abbrev pub RefusesTry : {Value Error : Type 0} → Named → Making Value Error → Becoming Error → WorkerView → Error → WorkerView → Type 0
RefusesTry named Made Becomes old error new = LeavesFirst Becomes old error new
    ⊎ (MakesNone named Made Becomes old error new ⊎ (LeavesOne named Made old new × IsStopped Becomes error new))

-- so many tries, one after another, each of which was backed up
abbrev pub BackedUpTries : {Value Error : Type 0} → Named → Making Value Error → ℕ → WorkerView → WorkerView → Type 0
BackedUpTries named Made zero old new = new ≡ old
BackedUpTries named Made (suc count) old new = (between : WorkerView) × BackedUpTries named Made count old between
    × ((cause : Cause) × TriesOnce named Made between (ends.BackedUp cause) new)

-- so many tries that were backed up, and one more, which ended so
abbrev pub Tried : {Value Error : Type 0} → Named → Making Value Error → ℕ → WorkerView → code_ended.Ended Value → WorkerView → Type 0
Tried named Made before old ended new = (between : WorkerView) × BackedUpTries named Made before old between × TriesOnce named Made between ended new

-- The tries of a transaction. There is at least one; and after a back-up there were as many as there may be.
abbrev pub Ends : {Value Error : Type 0} → Named → Making Value Error → ℕ → WorkerView → code_ended.Ended Value → WorkerView → Type 0
Ends named Made most old ended new = (before : ℕ) × (before < most) × IsLastTry (before + 1) most ended × Tried named Made before old ended new

-- What was handed in where a try is refused with this error: by fewer tries than there may be, each of which was backed up; and by the refused one none, or one that is left.
abbrev pub HandsInUpTo : {Value Error : Type 0} → Named → Making Value Error → Becoming Error → ℕ → WorkerView → Error → WorkerView → Type 0
HandsInUpTo named Made Becomes most old error new = (before : ℕ) × (before < most)
    × ((between : WorkerView) × BackedUpTries named Made before old between × RefusesTry named Made Becomes between error new)

-- the same where no request of the refused try is made
abbrev pub HandsInFewer : {Value Error : Type 0} → Named → Making Value Error → Becoming Error → ℕ → WorkerView → Error → WorkerView → Type 0
HandsInFewer named Made Becomes most old error new = (before : ℕ) × (before < most)
    × ((between : WorkerView) × BackedUpTries named Made before old between × MakesNone named Made Becomes between error new)

-- operations were handed in, ran alone, and committed
abbrev pub RunsAlone : Named → List Operation → WorkerView → ℕ → WorkerView → Type 0
RunsAlone named operations old tn new = (new ≡ record old { last = old.last + 1; entered = new.entered; left = Nothing; checkpoints = new.checkpoints; front = new.front })
    × ((from : FrontView) × EndsLeft named old from × Over named old.session (Alone (old.last + 1) operations) (ends.Committed tn tt) from new.front)

-- they were handed in at most once
abbrev pub HandsInAlone : List Operation → WorkerView → WorkerView → Type 0
HandsInAlone operations old new = ((new ≡ record old { entered = new.entered; left = new.left; front = new.front })
    ⊎ (new ≡ record old { last = old.last + 1; entered = new.entered; left = Kept (Alone (old.last + 1) operations); front = new.front }))
    × GoesOnTo old.front new.front

-- Why they don't: an event met the fault, and what it was to end is left; or there is no memory for their copies, or they may not be handed in.
abbrev pub AloneStops : List Operation → WorkerView → Fault → Type 0
AloneStops operations worker fault = IsKept worker
    ⊎ ((worker.left ≡ Nothing) × ((fault ≡ faults.Memory) ⊎ (alone_fault worker operations ≡ Some fault)))

-- operations were tried: they committed, or each of the tries was backed up
abbrev pub TriesList : Named → ℕ → List Operation → WorkerView → Option ℕ → WorkerView → Type 0
TriesList named most operations old (Some tn) new = Ends named (Performing named operations) most old (ends.Committed tn tt) new
TriesList named most operations old None new = BackedUpTries named (Performing named operations) most old new

-- Operations commit: as a transaction in one of its tries, each of which performed them, or alone after as many as there may be.
abbrev pub Runs : Named → ℕ → List Operation → WorkerView → ℕ → WorkerView → Type 0
Runs named most operations old tn new = TriesList named most operations old (Some tn) new
    ⊎ ((between : WorkerView) × TriesList named most operations old None between × RunsAlone named operations between tn new)

-- What was handed in where they don't, with this fault: at most so many tries; or all of them, and then at most once the operations, to run alone.
abbrev pub RunsOut : Named → ℕ → List Operation → WorkerView → Fault → WorkerView → Type 0
RunsOut named most operations old fault new = HandsInUpTo named (Performing named operations) stays_fault most old fault new
    ⊎ ((between : WorkerView) × TriesList named most operations old None between × HandsInAlone operations between new × AloneStops operations new fault)

-- ---- how a worker counts its commits

-- a commit is counted, and a back-up is not
abbrev pub count_ended : {Value : Type 0} → code_ended.Ended Value → AutoCheckpoint → AutoCheckpoint
count_ended (ends.Committed tn value) auto = counted auto
count_ended (ends.BackedUp cause) auto = auto

-- what came of tries is counted so, and an error is not
abbrev pub count_tried : {Value Error : Type 0} → Result (code_ended.Ended Value) Error → AutoCheckpoint → AutoCheckpoint
count_tried (Ok ended) auto = count_ended ended auto
count_tried (Err error) auto = auto

-- operations of which each try was backed up are not counted
abbrev pub count_listed : Result (Option ℕ) Fault → AutoCheckpoint → AutoCheckpoint
count_listed (Ok (Some tn)) auto = counted auto
count_listed (Ok None) auto = auto
count_listed (Err fault) auto = auto

-- operations that commit are
abbrev pub count_run : Result ℕ Fault → AutoCheckpoint → AutoCheckpoint
count_run (Ok tn) auto = counted auto
count_run (Err fault) auto = auto

-- Where a checkpoint is due it comes first, and where it is made the count begins anew; then what came of the call is counted.
abbrev pub Counts : (AutoCheckpoint → AutoCheckpoint) → AutoCheckpoint → AutoCheckpoint → Type 0
Counts count old new = (folded : Option (Result ℕ Fault)) × (is_some folded ≡ is_due old) × (new ≡ count (checked_point folded old))

-- what came of a checkpoint stands in the history, where it was due
abbrev pub PointStands : Named → Option (Result ℕ Fault) → FrontView → FrontView → Type 0
PointStands named None from to = to ≡ from
PointStands named (Some folded) from to = StandsIn named from Checkpoint (replied Folded folded) to

-- where a checkpoint is due it is made, or refused, and nothing else of the worker changes
abbrev pub ChecksPoint : Named → WorkerView → WorkerView → Type 0
ChecksPoint named old new = (folded : Option (Result ℕ Fault)) × (is_some folded ≡ is_due old.checkpoints)
    × PointStands named folded old.front new.front
    × (new ≡ record old { checkpoints = checked_point folded old.checkpoints; front = new.front })

-- a call begins with a checkpoint that is due, and then does so
abbrev pub AfterPoint : Named → WorkerView → (WorkerView → Type 0) → Type 0
AfterPoint named old Does = (between : WorkerView) × ChecksPoint named old between × Does between

-- Why operations don't commit, and what was handed in then: they can't be handed in, and nothing changes; or a checkpoint that is due came first.
abbrev pub RunStops : Named → ℕ → List Operation → WorkerView → Fault → WorkerView → Type 0
RunStops named most operations old fault new = ((alone_fault old operations ≡ Some fault) × (new ≡ old))
    ⊎ AfterPoint named old (λ begun. RunsOut named most operations begun fault new)
