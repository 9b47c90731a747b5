-- What stands behind the lock of a store, and what the events do to it (our own choice).
use Rattle.std.specs.Prelude.{◌≡◌, ℕ, ◌+◌, ◌^◌, ◌<◌, ◌≤◌, List, [], ◌∷◌, Option, None, Some}
use Rattle.occ_types.specs.declared.limits.TheConstants.{MAX_COUNTER, MAX_NUMBER}
use Rattle.boxcar.specs.Table.{Where}
use Rattle.occ_model.specs.Log.{Case, LogRow, Standing, Open, Writing, Done, Back}
use Rattle.occ_model.specs.World.{World, next_place}
use Rattle.occ_model.specs.Invariant.{Invariant}
use Rattle.occ_model.specs.Event.{Item, Event, Read, Forget, Enter, Decide, WriteOne, Finish, BackUp, SerialEnd, RunAlone, Checkpoint, Reply, Entered, Finished, BackedUp, EndedBack, RanAlone}
use Rattle.occ_model.specs.Poll.{row_numbered}
use Rattle.occ_model.specs.Step.{Run}
use Rattle.occ_model.specs.declared.verdict.Verdict.TheVariants as verdicts
use Rattle.occ_model.specs.declared.verdict.Cause.{Cause}
use Rattle.occ_board.specs.declared.words.Words.{Words}
use Rattle.occ_board.specs.Words.{HasSession, last_of, counted, settled}
use Rattle.occ_board.specs.Rule.{Posted}
use Rattle.occ_published.specs.Published.{Published, NumbersFit}
use Rattle.occ_sets.specs.declared.log_rows.Standing as code_standing
use Rattle.occ_sets.specs.declared.log_rows.Standing.TheVariants as standings
use Rattle.occ_filed.specs.Filed.{Filed, Moves, Enters}
use Rattle.occ_history.specs.History.{Happened, Party, Absent, Nobody, Session, Client, Lane, FrontView, StoryView, IsHere}
use Rattle.occ_history.specs.Clauses.{Lent}
use Rattle.occ_history.specs.Clauses as history
use Rattle.occ_store.specs.Names.{Named, opened_as}

-- The core with the file of its cases, the words that stand on the board, the story, and what who reads now has seen of it.
pub record Locked : Type 0 where
  pub filed : Filed
  pub words : Words
  pub story : StoryView
  pub visitor : FrontView

-- The words show the world; the store is the one that the name stands for; and the rows that the ledger counts, with those before the place that the store began at, are all that entered, those that were folded too.
pub record IsShown (named : Named) (filed : Filed) (posted : Posted) (rows : ℕ) : Type 0 where
  pub published : Published filed.world posted.words
  pub settings : filed.world.settings ≡ named.settings
  pub file : filed.file ≡ named.file
  pub board : posted.board ≡ named.board
  pub counted : rows ≡ next_place filed.world

-- the session for which a party reads, or 0 where that is none
abbrev pub reader_of : Party → ℕ
reader_of Absent = 0
reader_of Nobody = 0
reader_of (Session session) = session
reader_of (Client session) = session
reader_of (Lane session) = 0

-- a party that was not lent out, and the session for which it reads
abbrev pub IsVisitor : Party → ℕ → Type 0
IsVisitor party session = IsHere party × (session ≡ reader_of party)

-- What stands behind the lock of a named store. It shows the world, to which the story led from what the store was opened with; and it keeps for which session is read by who reads now.
pub record IsLocked (named : Named) (filed : Filed) (posted : Posted) (rows : ℕ) (story : StoryView) (visitor : FrontView) (reading : ℕ) : Type 0 where
  pub shown : IsShown named filed posted rows
  pub ran : Run (opened_as named) story.log filed.world
  pub here : IsVisitor visitor.party reading

-- what the events rest on of every world of a core
pub record IsLawful (world : World) : Type 0 where
  pub invariant : Invariant world
  pub fits : NumbersFit world
  pub places : next_place world < 2 ^ 64

-- the world of the core
abbrev pub world_of : Locked → World
world_of locked = locked.filed.world

-- the number of a session's next transaction to be over
abbrev pub next_over : Words → ℕ → ℕ
next_over words session = (last_of words session).number + 1

-- A session's next transaction committed: the counter is stored, and then the session's word.
abbrev pub committed : Words → ℕ → ℕ → Words
committed words session tn = settled (counted words tn) session (next_over words session) verdicts.Commit

-- the words after a step of a session that is no back-up, by its reply
abbrev pub stored : Words → ℕ → Reply → Words
stored words session (Finished tn) = committed words session tn
stored words session (RanAlone tn answers) = committed words session tn
stored words session (EndedBack cause) = settled words session (next_over words session) (verdicts.BackUp cause)
stored words session reply = words

-- the word of a session has room for the next number
pub record HasNext (words : Words) (session : ℕ) : Type 0 where
  pub has : HasSession words session
  pub fits : next_over words session ≤ MAX_NUMBER

-- and that a commit may be stored under this transaction number
pub record MayCommit (words : Words) (session tn : ℕ) : Type 0 where
  pub next : HasNext words session
  pub rises : words.counter ≤ tn
  pub fits : tn ≤ MAX_COUNTER

-- what a reply tells may be stored
abbrev pub MayStore : Words → ℕ → Reply → Type 0
MayStore words session (Finished tn) = MayCommit words session tn
MayStore words session (RanAlone tn answers) = MayCommit words session tn
MayStore words session (EndedBack cause) = HasNext words session
MayStore words session reply = Unit {0}

-- the cause for which a row stands as backed up, or the one that was kept
abbrev pub cause_of : Cause → Standing → Cause
cause_of kept (Open index case) = kept
cause_of kept (Writing done) = kept
cause_of kept (Done number) = kept
cause_of kept (Back cause) = cause

-- the cause that a back-up tells: that of the row, or the one that was kept where the row was folded before
abbrev pub cause_told : Cause → Option LogRow → Cause
cause_told kept None = kept
cause_told kept (Some row) = cause_of kept row.standing

-- the words after a back-up, by its reply
abbrev pub told : Words → ℕ → Cause → World → Reply → Words
told words session kept world (BackedUp number) =
    settled words session number (verdicts.BackUp (cause_told kept (row_numbered session number world.log)))
told words session kept world reply = words

-- the locked state, and what one has seen who has it
abbrev pub lent_to : FrontView → Locked → Lent
lent_to front locked = record { world = world_of locked; story = locked.story; visitor = front }

-- the world steps so, and the story and who does it are told of it
abbrev pub Tells : FrontView → Locked → Event → Reply → FrontView → Locked → Type 0
Tells me old event reply now new = history.Happens (lent_to me old) event reply (lent_to now new)

-- An event of a session happens: the core moves so, what the reply tells is stored, and the story is told of it.
abbrev pub Happens : FrontView → Locked → ℕ → Event → Reply → FrontView → Locked → Type 0
Happens me old session event reply now new = Moves old.filed event reply new.filed × (new.words ≡ stored old.words session reply) × Tells me old event reply now new

-- A call of a read phase moves the world and the totals alone: the words stay, the file, and what shows its cases.
pub record IsSameBeside (old new : Locked) : Type 0 where
  pub words : new.words ≡ old.words
  pub file : new.filed.file ≡ old.filed.file
  pub tokens : new.filed.tokens ≡ old.filed.tokens

-- An event of a read phase: nothing else changes, and the story and who reads are told of it.
abbrev pub ReadsSo : Locked → Event → Reply → Locked → Type 0
ReadsSo old event reply new = IsSameBeside old new × Tells old.visitor old event reply new.visitor new

-- with another one who reads
abbrev pub visited : Locked → FrontView → Locked
visited locked front = record locked { visitor = front }

-- An entry, by which a request's case has this token.
abbrev pub EntersAs : FrontView → Locked → ℕ → Item → Option (Where Case) → Reply → FrontView → Locked → Type 0
EntersAs me old session item token reply now new = Enters old.filed session item token reply new.filed × (new.words ≡ stored old.words session reply)
    × Tells me old (Enter session item) reply now new

-- A back-up. It tells the cause with which the row stands in the log, or the one that was kept where the row was folded before.
abbrev pub BacksUp : FrontView → Locked → ℕ → Cause → Reply → FrontView → Locked → Type 0
BacksUp me old session kept reply now new =
    Moves old.filed (BackUp session) reply new.filed × (new.words ≡ told old.words session kept (world_of new) reply)
    × Tells me old (BackUp session) reply now new

-- how many rows came into the log by what was handed in, by its reply
abbrev pub rows_entered : Reply → ℕ
rows_entered (Entered place index) = 1
rows_entered (Finished tn) = 1
rows_entered (EndedBack cause) = 1
rows_entered (RanAlone tn answers) = 1
rows_entered reply = 0

-- how many rows an event brings into the log, by its reply
abbrev pub rows_by : Event → Reply → ℕ
rows_by (Read session number start question) reply = 0
rows_by (Forget session number) reply = 0
rows_by (Enter session item) reply = rows_entered reply
rows_by (Decide session) reply = 0
rows_by (WriteOne session) reply = 0
rows_by (Finish session) reply = 0
rows_by (BackUp session) reply = 0
rows_by (SerialEnd session item) reply = rows_entered reply
rows_by (RunAlone session number operations) reply = rows_entered reply
rows_by Checkpoint reply = 0

-- how many rows a history brought into the log
abbrev pub rows_in : List Happened → ℕ
rows_in [] = 0
rows_in (happened ∷ others) = rows_by happened.0 happened.1 + rows_in others

-- how a row stands, without its case
abbrev pub told_standing : Standing → code_standing.Standing (Unit {0})
told_standing (Open index case) = standings.Open tt
told_standing (Writing done) = standings.Writing done
told_standing (Done number) = standings.Done number
told_standing (Back cause) = standings.Back cause
