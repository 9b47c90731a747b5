-- What each step makes of what a poll shows, and of how a session's latest row stands (our own choice). Each law is the contract of a function of this crate.
use Rattle.std.specs.Prelude.{◌≡◌, ℕ, ◌+◌, ◌⊎◌, true, Option, None, Some, MatchOption, option_and_then}
use Rattle.occ_model.specs.Log.{LogRow, Open, Back, Case}
use Rattle.occ_model.specs.World.{World, latest, is_held}
use Rattle.occ_model.specs.Event.{Request, Event, Read, Forget, Enter, Decide, WriteOne, Finish, BackUp, SerialEnd, RunAlone, Checkpoint, Reply, Refused, Answered, Forgotten, Entered, Closed, Decided, Wrote, NoMore, Finished, BackedUp, EndedBack, RanAlone, Folded}
use Rattle.occ_model.specs.Step.{Step, IsCaseOf}
use Rattle.occ_model.specs.Invariant.{Invariant}
use Rattle.occ_model.specs.Poll.{Poll, poll, outcome, settled_number}
use Rattle.occ_model.specs.declared.verdict.Verdict.{Verdict}
use Rattle.occ_model.specs.declared.verdict.Verdict.TheVariants as verdicts
use Rattle.occ_model.specs.declared.verdict.Cause.{Cause}

-- the session that an event is of; a checkpoint is of none
abbrev pub session_of : Event → Option ℕ
session_of (Read session number start question) = Some session
session_of (Forget session number) = Some session
session_of (Enter session item) = Some session
session_of (Decide session) = Some session
session_of (WriteOne session) = Some session
session_of (Finish session) = Some session
session_of (BackUp session) = Some session
session_of (SerialEnd session item) = Some session
session_of (RunAlone session number operations) = Some session
session_of Checkpoint = None

-- The session's next transaction is over, committed under the next transaction number. Every other session shows the new counter, and else what it did.
pub record Commits (session : ℕ) (old new : World) : Type 0 where
  pub own : poll new session ≡ record {
    counter = old.counter + 1;
    settled = settled_number old session + 1;
    ended = Some verdicts.Commit;
    finished = Some (old.counter + 1);
  }
  pub others : (other : ℕ) → (other ≡ session → ⊥) → poll new other ≡ record (poll old other) { counter = old.counter + 1 }

-- The session's next transaction is over, and how it ended is shown so. Every other session shows what it did.
pub record BacksUp (session : ℕ) (ended : Option Verdict) (old new : World) : Type 0 where
  pub own : poll new session ≡ record (poll old session) { settled = settled_number old session + 1; ended = ended }
  pub others : (other : ℕ) → (other ≡ session → ⊥) → poll new other ≡ poll old other

-- What is still shown is as it was. How the last transaction ended, and the last transaction number, may be shown no more.
pub record Fades (old new : Poll) : Type 0 where
  pub counter : new.counter ≡ old.counter
  pub settled : new.settled ≡ old.settled
  pub ended : (verdict : Verdict) → new.ended ≡ Some verdict → old.ended ≡ Some verdict
  pub finished : (number : ℕ) → new.finished ≡ Some number → old.finished ≡ Some number

-- every session's poll shows what it did
abbrev pub PollsStay : World → World → Type 0
PollsStay old new = (session : ℕ) → poll new session ≡ poll old session

-- What a step makes of what polls show, by its reply. One that ends nothing leaves them. A finish, a serial end that commits and operations that run alone commit, the last two as entry and end at once. A back-up shows the cause with which the row stands in the log, or none where the row was folded before; a serial end that backs up shows the cause that it replies. A checkpoint lets fade what it folds.
abbrev pub Shows : World → Event → Reply → World → Type 0
Shows old event (Refused fault) new = PollsStay old new
Shows old event (Answered answer) new = PollsStay old new
Shows old event (Forgotten there) new = PollsStay old new
Shows old event (Entered place index) new = PollsStay old new
Shows old event Closed new = PollsStay old new
Shows old event (Decided verdict) new = PollsStay old new
Shows old event (Wrote object) new = PollsStay old new
Shows old event NoMore new = PollsStay old new
Shows old event (Finished number) new =
    MatchOption (session_of event) (Unit {0}) (λ session. (number ≡ old.counter + 1) × Commits session old new)
Shows old event (RanAlone number answers) new =
    MatchOption (session_of event) (Unit {0}) (λ session. (number ≡ old.counter + 1) × Commits session old new)
Shows old event (BackedUp number) new =
    MatchOption (session_of event) (Unit {0}) (λ session.
    (number ≡ settled_number old session + 1)
    × BacksUp session (option_and_then (λ row. outcome row.standing) (latest session old.log)) old new)
Shows old event (EndedBack cause) new =
    MatchOption (session_of event) (Unit {0}) (λ session. BacksUp session (Some (verdicts.BackUp cause)) old new)
Shows old event (Folded count) new = (session : ℕ) → Fades (poll old session) (poll new session)

-- Every step shows so.
abbrev pub StepsShow : Type 0
StepsShow = (old new : World) (event : Event) (reply : Reply) → Invariant old → Step old event reply new → Shows old event reply new

-- the entry of a request, by which its row comes in with a case
pub record Enters (old : World) (event : Event) (reply : Reply) (session index : ℕ) (case : Case) (row : LogRow) : Type 0 where
  pub event_is : event ≡ Enter session (Request row.number row.start row.writes)
  pub reply_is : reply ≡ Entered row.place index
  pub case_is : IsCaseOf old session row.number row.start row.writes case

-- Only the entry of a request gives a session an open row with another case. Over every other step an open row was there before, with that very case.
abbrev pub CasesStay : Type 0
CasesStay = (old new : World) (event : Event) (reply : Reply) → Step old event reply new
    → (session index : ℕ) (case : Case) (row : LogRow) → latest session new.log ≡ Some row → row.standing ≡ Open index case
    → (latest session old.log ≡ Some row) ⊎ Enters old event reply session index case row

-- The session's transaction was decided to be backed up for this cause, and its back-up is still to come. Its row may have been folded.
pub record IsToBackUp (session : ℕ) (cause : Cause) (world : World) : Type 0 where
  pub held : is_held world session ≡ true
  pub stands : (row : LogRow) → latest session world.log ≡ Some row → row.standing ≡ Back cause

abbrev pub CausesAreTold : Type 0
CausesAreTold = (old new : World) (session : ℕ) (cause : Cause) → Step old (Decide session) (Decided (verdicts.BackUp cause)) new → IsToBackUp session cause new

-- No step but its back-up ends that.
abbrev pub CausesStay : Type 0
CausesStay = (old new : World) (event : Event) (reply : Reply) (session : ℕ) (cause : Cause) → Step old event reply new → IsToBackUp session cause old
    → IsToBackUp session cause new ⊎ (event ≡ BackUp session)
