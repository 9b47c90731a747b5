-- One serial order for a whole history: its entries in their order, each with what was answered to it (Kung and Robinson, section 3; how a history tells it is our own choice).
use Rattle.std.specs.Prelude.{◌≡◌, ℕ, Bool, true, false, cond, ◌&&◌, ◌==◌, List, [], ◌∷◌, ◌++◌}
use Rattle.occ_types.specs.Question.{Question}
use Rattle.occ_model.specs.State.{State, Write, Observation}
use Rattle.occ_model.specs.Log.{LogRow, Explained, serial, settled}
use Rattle.occ_model.specs.Operations.{Operation, perform_all, nothing_yet}
use Rattle.occ_model.specs.World.{World}
use Rattle.occ_model.specs.Event.{Item, Request, Alone, Close, Event, Read, Forget, Enter, Decide, WriteOne, Finish, BackUp, SerialEnd, RunAlone, Checkpoint, Reply, Refused, Answered, Forgotten, Entered, Closed, Decided, Wrote, NoMore, Finished, BackedUp, EndedBack, RanAlone, Folded}
use Rattle.occ_history.specs.History.{Happened}

abbrev pub is_this : ℕ → ℕ → ℕ → ℕ → Bool
is_this session number other_session other_number = (session == other_session) && (number == other_number)

-- what was read so far, after one more read
abbrev pub read_then : List Observation → Question → Reply → List Observation
read_then so_far question (Answered answer) = so_far ++ (question, answer) ∷ []
read_then so_far question reply = so_far

-- a read phase that was forgotten is gone
abbrev pub forgotten_then : List Observation → Reply → List Observation
forgotten_then so_far (Forgotten was) = cond was [] so_far
forgotten_then so_far reply = so_far

-- what a transaction was answered so far, by its session and number, after one event more
abbrev pub noted : ℕ → ℕ → List Observation → Event → Reply → List Observation
noted session number so_far (Read s n start question) reply = cond (is_this s n session number) (read_then so_far question reply) so_far
noted session number so_far (Forget s n) reply = cond (is_this s n session number) (forgotten_then so_far reply) so_far
noted session number so_far (Enter s item) reply = so_far
noted session number so_far (Decide s) reply = so_far
noted session number so_far (WriteOne s) reply = so_far
noted session number so_far (Finish s) reply = so_far
noted session number so_far (BackUp s) reply = so_far
noted session number so_far (SerialEnd s item) reply = so_far
noted session number so_far (RunAlone s n operations) reply = so_far
noted session number so_far Checkpoint reply = so_far

abbrev pub given_after : ℕ → ℕ → List Observation → List Happened → List Observation
given_after session number so_far [] = so_far
given_after session number so_far (first ∷ others) = given_after session number (noted session number so_far first.0 first.1) others

-- What a transaction's client was given in a history: the answers to its reads, in their order, since its begin.
abbrev pub given : ℕ → ℕ → List Happened → List Observation
given session number log = given_after session number [] log

-- whether a reply to what was handed in tells of a row in the log
abbrev pub is_entry : Reply → Bool
is_entry (Refused fault) = false
is_entry (Answered answer) = false
is_entry (Forgotten was) = false
is_entry (Entered place index) = true
is_entry Closed = false
is_entry (Decided verdict) = false
is_entry (Wrote object) = false
is_entry NoMore = false
is_entry (Finished tn) = true
is_entry (BackedUp number) = false
is_entry (EndedBack cause) = true
is_entry (RanAlone tn answers) = true
is_entry (Folded count) = false

-- whether a transaction entered by an event
abbrev pub enters : Event → Reply → Bool
enters (Read session number start question) reply = false
enters (Forget session number) reply = false
enters (Enter session item) reply = is_entry reply
enters (Decide session) reply = false
enters (WriteOne session) reply = false
enters (Finish session) reply = false
enters (BackUp session) reply = false
enters (SerialEnd session item) reply = is_entry reply
enters (RunAlone session number operations) reply = is_entry reply
enters Checkpoint reply = false

-- A request's row: it read what its client was given.
pub record IsRequested (earlier : List Happened) (session number start : ℕ) (writes : List Write) (row : LogRow) : Type 0 where
  pub session_is : row.session ≡ session
  pub number_is : row.number ≡ number
  pub start_is : row.start ≡ start
  pub reads_are : row.reads ≡ given session number earlier
  pub writes_are : row.writes ≡ writes

-- The row of operations that ran alone: what they read and wrote, and what was answered to them, is that of one state.
pub record IsPerformed (session number : ℕ) (operations : List Operation) (reply : Reply) (row : LogRow) : Type 0 where
  pub session_is : row.session ≡ session
  pub number_is : row.number ≡ number
  pub state : State
  pub tn : ℕ
  pub reads_are : row.reads ≡ (perform_all state operations nothing_yet).reads
  pub writes_are : row.writes ≡ (perform_all state operations nothing_yet).writes
  pub answers_are : reply ≡ RanAlone tn (perform_all state operations nothing_yet).answers

abbrev pub EntersItem : List Happened → ℕ → Item → Reply → LogRow → Type 0
EntersItem earlier session (Request number start writes) reply row = IsRequested earlier session number start writes row
EntersItem earlier session (Alone number operations) reply row = IsPerformed session number operations reply row
EntersItem earlier session (Close number) reply row = ⊥

-- the row that entered by an event, after these
abbrev pub EntersBy : List Happened → Event → Reply → LogRow → Type 0
EntersBy earlier (Read session number start question) reply row = ⊥
EntersBy earlier (Forget session number) reply row = ⊥
EntersBy earlier (Enter session item) reply row = EntersItem earlier session item reply row
EntersBy earlier (Decide session) reply row = ⊥
EntersBy earlier (WriteOne session) reply row = ⊥
EntersBy earlier (Finish session) reply row = ⊥
EntersBy earlier (BackUp session) reply row = ⊥
EntersBy earlier (SerialEnd session item) reply row = EntersItem earlier session item reply row
EntersBy earlier (RunAlone session number operations) reply row = IsPerformed session number operations reply row
EntersBy earlier Checkpoint reply row = ⊥

-- The rows are those that entered by these events, in their order.
abbrev pub AreEntries : List Happened → List Happened → List LogRow → Type 0
AreEntries earlier [] rows = rows ≡ []
AreEntries earlier (first ∷ others) rows = elim (enters first.0 first.1) [
  | true ↦ (row : LogRow) × (later : List LogRow) × (rows ≡ row ∷ later) × EntersBy earlier first.0 first.1 row × AreEntries (earlier ++ first ∷ []) others later
  | false ↦ AreEntries (earlier ++ first ∷ []) others rows
]

-- A serial order of all transactions of a history, those too that were folded: they stand as they entered; what each committed one read is what serial replay of those before it answers; and the table with the rest of each open write phase is the replay of all (Kung and Robinson, section 3).
pub record IsOrder (state : State) (log : List Happened) (world : World) (order : List LogRow) : Type 0 where
  pub entries : AreEntries [] log order
  pub explained : Explained state order
  pub replayed : settled world.table world.log ≡ serial state order
