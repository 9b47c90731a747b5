-- What clauses see of a lane, and what one event makes of it (our own choice).
use Rattle.std.specs.Prelude.{◌≡◌, ◌⊎◌, ℕ, ◌+◌, ◌==◌, ◌&&◌, Bool, true, false, List, length, Option, None, Some, Result, Ok, Err, is_some, if◌then◌else◌}
use Rattle.std.specs.List.{list_any}
use Rattle.boxcar.specs.Table.{Where}
use Rattle.occ_types.specs.declared.fault.Fault.{Fault}
use Rattle.occ_types.specs.declared.fault.Fault.TheVariants.{NothingEntered, WrongCase}
use Rattle.occ_model.specs.Log.{Case}
use Rattle.occ_model.specs.World.{World, active_count}
use Rattle.occ_model.specs.Event.{Item, Request, Alone, Close, Event, Enter, Decide, WriteOne, Finish, SerialEnd, Reply, Refused, Answered, Forgotten, Entered, Closed, Wrote, NoMore, Finished, BackedUp, EndedBack, RanAlone, Folded}
use Rattle.occ_model.specs.Event as events
use Rattle.occ_model.specs.declared.verdict.Verdict.{Verdict}
use Rattle.occ_model.specs.declared.verdict.Verdict.TheVariants as verdicts
use Rattle.occ_model.specs.Replies.{replied}
use Rattle.occ_core.specs.Replies.{next_object}
use Rattle.occ_queue.specs.Items.{item_of, number_of, is_mark}
use Rattle.occ_queue.specs.Lanes.{Known}
use Rattle.occ_filed.specs.Filed.{DecidesBy, token_of}
use Rattle.occ_history.specs.History.{Party, Session, Lane, FrontView}
use Rattle.occ_store.specs.Locked.{Locked, world_of, rows_entered, Happens, Tells, EntersAs, BacksUp}
use Rattle.occ_store.specs.declared.serving.Point.{Point}
use Rattle.occ_store.specs.declared.serving.Point.TheVariants as points
use Rattle.occ_store.specs.declared.unfinished.Left as code_left
use Rattle.occ_store.specs.declared.unfinished.Left.TheVariants as lefts

-- what a lane has not ended: nothing; an item that it took and that has not entered; a row that is not decided, with what shows its case where that was filed; or a row with its verdict
pub data Left : Type 0 where
  Nothing : Left
  Kept : Item → Left
  Open : ℕ → Option (Where Case) → Left
  Decided : ℕ → Verdict → Left

module _ {Z : Type 0} where
  abbrev pub left_of : code_left.Left Z → Left
  left_of lefts.Nothing = Nothing
  left_of (lefts.Kept item) = Kept (item_of item)
  left_of (lefts.Open number token) = Open number token
  left_of (lefts.Decided number verdict) = Decided number verdict

-- Its session; what it took and heard of as pushed; what it has not ended; how many decisions came by a verdict from outside the lock, and how many rows it entered; whether its cases are filed, and whether a request ends serially where it can; and what it has seen of the history.
pub record LaneView : Type 0 where
  pub session : ℕ
  pub receiver : Known
  pub left : Left
  pub judged : ℕ
  pub entered : ℕ
  pub files : Bool
  pub serial : Bool
  pub front : FrontView

-- the lane of a session out of which nothing was taken: its cases are filed, and nothing ends serially
abbrev pub unused : ℕ → Known → FrontView → LaneView
unused session receiver front = record { session = session; receiver = receiver; left = Nothing; judged = 0; entered = 0; files = true; serial = false; front = front }

-- whose events of a session's ends are: its own, or its lane's
abbrev pub IsDoer : Party → ℕ → Type 0
IsDoer party session = (party ≡ Session session) ⊎ (party ≡ Lane session)

-- how many rows that are not decided are left
abbrev pub open_rows : Left → ℕ
open_rows Nothing = 0
open_rows (Kept item) = 0
open_rows (Open number token) = 1
open_rows (Decided number verdict) = 0

-- the number of what is left
abbrev pub number_left : Left → Option ℕ
number_left Nothing = None
number_left (Kept item) = Some (number_of item)
number_left (Open number token) = Some number
number_left (Decided number verdict) = Some number

-- what shows the case of a row that is not decided
abbrev pub token_left : Left → Option (Where Case)
token_left Nothing = None
token_left (Kept item) = None
token_left (Open number token) = token
token_left (Decided number verdict) = None

-- whether the closing mark has entered: it was taken, and nothing is left
abbrev pub is_nothing : Left → Bool
is_nothing Nothing = true
is_nothing (Kept item) = false
is_nothing (Open number token) = false
is_nothing (Decided number verdict) = false

abbrev pub is_closed : LaneView → Bool
is_closed lane = list_any is_mark lane.receiver.taken && is_nothing lane.left

-- 1 where it is so
abbrev pub count_if : Bool → ℕ
count_if b = if b then 1 else 0

-- What was taken is the rows that entered, the closing mark once that entered, and the item that is kept. Nothing is under way after the mark, for it is the last item.
abbrev pub AddsUp : List Item → ℕ → Left → Type 0
AddsUp taken entered Nothing = length taken ≡ entered + count_if (list_any is_mark taken)
AddsUp taken entered (Kept item) = (length taken ≡ entered + 1) × (list_any is_mark taken ≡ is_mark item)
AddsUp taken entered (Open number token) = (length taken ≡ entered) × (list_any is_mark taken ≡ false)
AddsUp taken entered (Decided number verdict) = (length taken ≡ entered) × (list_any is_mark taken ≡ false)

-- whether a row is left that is not decided
abbrev pub is_open : Left → Bool
is_open Nothing = false
is_open (Kept item) = false
is_open (Open number token) = true
is_open (Decided number verdict) = false

-- whether operations are kept that run alone
abbrev pub is_alone : Item → Bool
is_alone (Request number start writes) = false
is_alone (Alone number operations) = true
is_alone (Close number) = false

abbrev pub keeps_alone : Left → Bool
keeps_alone Nothing = false
keeps_alone (Kept item) = is_alone item
keeps_alone (Open number token) = false
keeps_alone (Decided number verdict) = false

-- whether an item ends serially: a request does where no row is active, if the lane's policy says so
abbrev pub ends_serially : World → Bool → Item → Bool
ends_serially world false item = false
ends_serially world true (Request number start writes) = active_count world == 0
ends_serially world true item = false

-- what comes next of a row that is decided to commit
abbrev pub next_of : World → ℕ → Event
next_of world session = if is_some (next_object world session) then WriteOne session else Finish session

-- the point that a reply tells; no event of a lane has one of the last replies
abbrev pub point_of : Reply → Point
point_of (Entered place index) = points.Entered
point_of Closed = points.Entered
point_of (events.Decided verdict) = points.Decided
point_of (Wrote object) = points.Wrote
point_of NoMore = points.Wrote
point_of (Finished tn) = points.Settled
point_of (BackedUp number) = points.Settled
point_of (EndedBack cause) = points.Settled
point_of (RanAlone tn answers) = points.Settled
point_of reply = points.Took

-- an event answers its fault, or the point that it reached
abbrev pub reached : Reply → Result Point Fault
reached (Refused fault) = Err fault
reached reply = Ok (point_of reply)

-- what is left of a kept item by the reply to its entry; the row of a request has this token
abbrev pub left_entering : Item → Option (Where Case) → Reply → Left
left_entering item token (Refused fault) = Kept item
left_entering item token (Entered place index) = Open (number_of item) token
left_entering item token reply = Nothing

-- what is left of a row that is decided to commit, and of one that is to be backed up
abbrev pub left_ending : ℕ → Verdict → Reply → Left
left_ending number verdict (Finished tn) = Nothing
left_ending number verdict (BackedUp backed) = Nothing
left_ending number verdict reply = Decided number verdict

-- An item enters, or ends serially. Where the lane files no cases its row has no token.
abbrev pub TakesIn : FrontView → ℕ → Bool → Bool → Item → Locked → Reply → FrontView → Locked → Type 0
TakesIn me session files serial item old reply now new = elim (ends_serially (world_of old) serial item) [
  | true ↦ Happens me old session (SerialEnd session item) reply now new
  | false ↦ (token : Option (Where Case)) × (files ≡ false → token ≡ None) × EntersAs me old session item token reply now new
]

-- A row is decided: by the verdict of a judged case of the file, which is refused where that is another case than the one that was filed for it; or now.
abbrev pub DecidesAs : FrontView → ℕ → Option (Where Case) → Locked → Result Verdict Fault → FrontView → Locked → Type 0
DecidesAs me session None old result now new = Happens me old session (Decide session) (replied events.Decided result) now new
DecidesAs me session (Some judged) old result now new = DecidesBy old.filed session judged.index result new.filed × (new.words ≡ old.words)
    × (Tells me old (Decide session) (replied events.Decided result) now new ⊎ ((result ≡ Err WrongCase) × (now ≡ me) × (new.story ≡ old.story)))

-- how many decisions came by a verdict from outside the lock, with this one
abbrev pub judged_more : ℕ → Option (Where Case) → ℕ
judged_more judged None = judged
judged_more judged (Some case) = judged + 1

-- the lane after a decision, and the point that it reached; at a fault the row stays
abbrev pub AfterDecision : LaneView → ℕ → Option (Where Case) → Option (Where Case) → Result Verdict Fault → Result Point Fault → LaneView → Type 0
AfterDecision lane number token judged (Err fault) result after = (result ≡ Err fault) × (after ≡ record lane { left = Open number token; front = after.front })
AfterDecision lane number token judged (Ok verdict) result after =
    (result ≡ Ok points.Decided) × (after ≡ record lane { left = Decided number verdict; judged = judged_more lane.judged judged; front = after.front })

-- An event of a row that is decided to commit: its next single write, or its finish.
abbrev pub Ends : Event → ℕ → LaneView → Locked → Result Point Fault → LaneView → Locked → Type 0
Ends event number lane old result after new =
    (reply : Reply) × Happens lane.front old lane.session event reply after.front new × (result ≡ reached reply)
    × (after ≡ record lane { left = left_ending number verdicts.Commit reply; front = after.front })

-- One event of what a lane has left. Where nothing is left there is none.
abbrev pub GoesOn : Left → LaneView → Option (Where Case) → Locked → Result Point Fault → LaneView → Locked → Type 0
GoesOn Nothing lane judged old result after new = (result ≡ Err NothingEntered) × (after ≡ lane) × (new ≡ old)
GoesOn (Kept item) lane judged old result after new =
    (reply : Reply) × TakesIn lane.front lane.session lane.files lane.serial item old reply after.front new × (result ≡ reached reply)
    × (after ≡ record lane {
      left = left_entering item (token_of new.filed.tokens lane.session) reply;
      entered = lane.entered + rows_entered reply;
      front = after.front;
    })
GoesOn (Open number token) lane judged old result after new =
    (decided : Result Verdict Fault) × DecidesAs lane.front lane.session judged old decided after.front new × AfterDecision lane number token judged decided result after
GoesOn (Decided number verdicts.Commit) lane judged old result after new =
    Ends (next_of (world_of old) lane.session) number lane old result after new
GoesOn (Decided number (verdicts.BackUp cause)) lane judged old result after new =
    (reply : Reply) × BacksUp lane.front old lane.session cause reply after.front new × (result ≡ reached reply)
    × (after ≡ record lane { left = left_ending number (verdicts.BackUp cause) reply; front = after.front })

abbrev pub Advances : LaneView → Option (Where Case) → Locked → Result Point Fault → LaneView → Locked → Type 0
Advances lane = GoesOn lane.left lane
