-- What keeps a store shown on its board. Each law is the contract of a function of this crate (our own choice).
use Rattle.std.specs.Prelude.{◌≡◌, ℕ, ◌+◌, false, Some}
use Rattle.occ_model.specs.Log.{LogRow, Back, Base, last_folded}
use Rattle.occ_model.specs.World.{Settings, World, opened, resumed}
use Rattle.occ_model.specs.Event.{Event, Reply, BackUp, BackedUp, EndedBack}
use Rattle.occ_model.specs.Step.{Step}
use Rattle.occ_model.specs.Invariant.{Invariant}
use Rattle.occ_model.specs.Poll.{row_numbered}
use Rattle.occ_model.specs.EndLaws.{session_of, IsToBackUp}
use Rattle.occ_model.specs.declared.verdict.Cause.{Cause}
use Rattle.occ_board.specs.declared.words.Words.{Words}
use Rattle.occ_board.specs.Words.{blank, continued, last_of}
use Rattle.occ_published.specs.Published.{Published, ends, number_told, NumbersFit, CommitMayBeStored, BackUpMayBeStored, MayTell}

-- A board shows a store that goes on from a base, whatever its counter, where it has this counter and each session behind its last number.
abbrev pub BegunIsPublished : Type 0
BegunIsPublished = (settings : Settings) (base : Base) (counter : ℕ) → Published (resumed settings base counter) (continued counter (last_folded base) settings.sessions)

-- A new board shows a store that was just opened.
abbrev pub OpenedIsPublished : Type 0
OpenedIsPublished = (settings : Settings) → Published (opened settings) (blank settings.sessions)

-- A step that ends nothing leaves a store shown by the words that stand, be it refused or a checkpoint.
abbrev pub StepsBetweenStayPublished : Type 0
StepsBetweenStayPublished = (old new : World) (words : Words) (event : Event) (reply : Reply) → Invariant old → Step old event reply new
    → ends event reply ≡ false → Published old words → Published new words

-- After a finish, a serial end that commits and operations that run alone, the counter and then the session's word are stored.
abbrev pub CommitsAreStored : Type 0
CommitsAreStored = (old new : World) (words : Words) (event : Event) (reply : Reply) (session tn : ℕ) → Invariant old → Step old event reply new
    → session_of event ≡ Some session → number_told reply ≡ Some tn → NumbersFit new → Published old words
    → (number : ℕ) → number ≡ (last_of words session).number + 1 → CommitMayBeStored words session number tn new

-- After a back-up, which answers the next number, the session's word alone is stored.
abbrev pub BackUpsAreStored : Type 0
BackUpsAreStored = (old new : World) (words : Words) (event : Event) (session number : ℕ) → Invariant old → Step old event (BackedUp number) new
    → session_of event ≡ Some session → NumbersFit new → Published old words → BackUpMayBeStored words session number new

-- So it is after a serial end that backs up, which tells the cause itself.
abbrev pub SerialBackUpsAreStored : Type 0
SerialBackUpsAreStored = (old new : World) (words : Words) (event : Event) (session : ℕ) (cause : Cause) → Invariant old → Step old event (EndedBack cause) new
    → session_of event ≡ Some session → NumbersFit new → Published old words
    → (number : ℕ) → number ≡ (last_of words session).number + 1 → BackUpMayBeStored words session number new × MayTell new session cause

-- The cause with which the row of the transaction stands may be told; where the row was folded, any may.
abbrev pub CausesOfRowsMayBeTold : Type 0
CausesOfRowsMayBeTold = (old new : World) (event : Event) (session number : ℕ) (cause : Cause) → Invariant old → Step old event (BackedUp number) new
    → session_of event ≡ Some session → ((row : LogRow) → row_numbered session number new.log ≡ Some row → row.standing ≡ Back cause)
    → MayTell new session cause

-- So may the cause that the decision told.
abbrev pub CausesKeptMayBeTold : Type 0
CausesKeptMayBeTold = (old new : World) (session number : ℕ) (cause : Cause) → Invariant old → Step old (BackUp session) (BackedUp number) new
    → IsToBackUp session cause old → MayTell new session cause
