-- That what stands on a board shows a store (our own choice).
use Rattle.std.specs.Prelude.{◌≡◌, ℕ, ◌+◌, ◌≤◌, Bool, true, false, ◌&&◌, length, Option, None, Some}
use Rattle.occ_types.specs.declared.limits.TheConstants.{MAX_COUNTER, MAX_NUMBER}
use Rattle.occ_model.specs.World.{World, active_count, has_session, last_entered}
use Rattle.occ_model.specs.Event.{Event, Read, Forget, Enter, Decide, WriteOne, Finish, BackUp, SerialEnd, RunAlone, Checkpoint, Reply, Refused, Answered, Forgotten, Entered, Closed, Decided, Wrote, NoMore, Finished, BackedUp, EndedBack, RanAlone, Folded}
use Rattle.occ_model.specs.Poll.{Poll, poll}
use Rattle.occ_model.specs.declared.verdict.Verdict.{Verdict}
use Rattle.occ_model.specs.declared.verdict.Verdict.TheVariants as verdicts
use Rattle.occ_model.specs.declared.verdict.Cause.{Cause}
use Rattle.occ_board.specs.declared.words.Last.{Last}
use Rattle.occ_board.specs.declared.words.Words.{Words}
use Rattle.occ_board.specs.Words.{HasSession, last_of, counted, settled}

-- A session's word shows its poll: the number of its last transaction that is over; and, as long as the log has them, how that ended and the transaction number of its last one to finish.
pub record IsShown (poll : Poll) (last : Last) : Type 0 where
  pub number : last.number ≡ poll.settled
  pub status : (verdict : Verdict) → poll.ended ≡ Some verdict → last.status ≡ Some verdict
  pub tn : (number : ℕ) → poll.finished ≡ Some number → last.tn ≡ number

-- There is a word for the counter, which is the store's, and one for each session, which shows its poll.
pub record Published (world : World) (words : Words) : Type 0 where
  pub sessions : length words.sessions ≡ world.settings.sessions
  pub counter : words.counter ≡ world.counter
  pub shown : (session : ℕ) → HasSession words session → IsShown (poll world session) (last_of words session)

-- whether an event may end a transaction
abbrev pub may_end : Event → Bool
may_end (Read session number start question) = false
may_end (Forget session number) = false
may_end (Enter session item) = true
may_end (Decide session) = false
may_end (WriteOne session) = false
may_end (Finish session) = true
may_end (BackUp session) = true
may_end (SerialEnd session item) = true
may_end (RunAlone session number operations) = true
may_end Checkpoint = false

-- whether a reply tells that one ended
abbrev pub tells_end : Reply → Bool
tells_end (Refused fault) = false
tells_end (Answered answer) = false
tells_end (Forgotten there) = false
tells_end (Entered place index) = false
tells_end Closed = false
tells_end (Decided verdict) = false
tells_end (Wrote object) = false
tells_end NoMore = false
tells_end (Finished number) = true
tells_end (BackedUp number) = true
tells_end (EndedBack cause) = true
tells_end (RanAlone number answers) = true
tells_end (Folded count) = false

-- whether a step ended a transaction, so that words are to be stored
abbrev pub ends : Event → Reply → Bool
ends event reply = may_end event && tells_end reply

-- the transaction number that a reply tells
abbrev pub number_told : Reply → Option ℕ
number_told (Refused fault) = None
number_told (Answered answer) = None
number_told (Forgotten there) = None
number_told (Entered place index) = None
number_told Closed = None
number_told (Decided verdict) = None
number_told (Wrote object) = None
number_told NoMore = None
number_told (Finished number) = Some number
number_told (BackedUp number) = None
number_told (EndedBack cause) = None
number_told (RanAlone number answers) = Some number
number_told (Folded count) = None

-- the counter and the sessions' numbers have room in the words
pub record NumbersFit (world : World) : Type 0 where
  pub counter : world.counter + active_count world ≤ MAX_COUNTER
  pub numbers : (session : ℕ) → has_session world session ≡ true → last_entered world session ≤ MAX_NUMBER

-- After a commit of a session, the counter and then its word may be stored, with the next number, and show the store again.
pub record CommitMayBeStored (words : Words) (session number tn : ℕ) (new : World) : Type 0 where
  pub has : HasSession words session
  pub number_is : number ≡ (last_of words session).number + 1
  pub number_fits : number ≤ MAX_NUMBER
  pub counter_rises : words.counter ≤ tn
  pub counter_fits : tn ≤ MAX_COUNTER
  pub published : Published new (settled (counted words tn) session number verdicts.Commit)

-- a cause that may be told of a session's last transaction: the one that its poll shows, or any where that shows none
abbrev pub MayTell : World → ℕ → Cause → Type 0
MayTell world session cause = (verdict : Verdict) → (poll world session).ended ≡ Some verdict → verdict ≡ verdicts.BackUp cause

-- After a back-up of a session, its word may be stored, with the next number and a cause that may be told, and shows the store again.
pub record BackUpMayBeStored (words : Words) (session number : ℕ) (new : World) : Type 0 where
  pub has : HasSession words session
  pub number_is : number ≡ (last_of words session).number + 1
  pub number_fits : number ≤ MAX_NUMBER
  pub published : (cause : Cause) → MayTell new session cause → Published new (settled words session number (verdicts.BackUp cause))
