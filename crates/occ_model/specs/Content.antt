-- The content of a store: its sessions, its starts and finishes, and the keys, rows and questions that stand in it (our own choice).
use Rattle.std.specs.Prelude.{◌≡◌, ℕ, ◌≤◌, ℤ, List, [], ◌∷◌, length, Some, None, IfSome}
use Rattle.std.specs.List.{AllByRecursion}
use Rattle.std.specs.FinMap.{get}
use Rattle.occ_types.specs.declared.limits.TheConstants.{MAX_QUESTIONS}
use Rattle.occ_types.specs.Object.{Object}
use Rattle.occ_types.specs.Question.{Question, One, Span}
use Rattle.occ_types.specs.Row.{Row, Int}
use Rattle.occ_types.specs.Schema.{Schema, check_row, check_question}
use Rattle.occ_model.specs.State.{State, Write, Observation, answer}
use Rattle.occ_model.specs.Operations.{Operation, Get, Scan, Put, Delete, Add, held_sum}
use Rattle.occ_model.specs.Log.{LogRow, Writing}
use Rattle.occ_model.specs.World.{World, ReadPhase}
use Rattle.occ_model.specs.Invariant.{Invariant}
use Rattle.occ_model.specs.Event.{Item, Request, Alone, Close, Event, Read, Forget, Enter, Decide, WriteOne, Finish, BackUp, SerialEnd, RunAlone, Checkpoint}

-- one of so many sessions, which are numbered from 1
pub record IsSession (sessions session : ℕ) : Type 0 where
  pub first : 1 ≤ session
  pub last : session ≤ sessions

-- What is asked for of the questions, and of the rows of each table; a key is all right where the question for it is.
module _ (Askable : Question → Type 0) (Storable : ℕ → Row → Type 0) where
  -- each row that stands is all right, and so is its key
  abbrev pub StateIs : State → Type 0
  StateIs state = (object : Object) (row : Row) → get state object ≡ Some row → Askable (One object.0 object.1) × Storable object.0 row

  pub record WriteIs (write : Write) : Type 0 where
    pub key : Askable (One write.0.0 write.0.1)
    pub row : IfSome write.1 (Storable write.0.0)

  -- a question that is all right, with the answer of some state that is
  pub record ReadIs (seen : Observation) : Type 0 where
    pub question : Askable seen.0
    pub state : State
    pub fits : StateIs state
    pub answered : seen.1 ≡ answer seen.0 state

  -- a row of the log, of one of so many sessions, at a counter
  pub record RowIs (sessions counter : ℕ) (row : LogRow) : Type 0 where
    pub session : IsSession sessions row.session
    pub start : row.start ≤ counter
    pub finish : row.finish ≤ counter
    -- no more writes are done than there are
    pub done : (done : ℕ) → row.standing ≡ Writing done → done ≤ length row.writes
    pub few : length row.reads ≤ MAX_QUESTIONS
    pub reads : AllByRecursion ReadIs row.reads
    pub writes : AllByRecursion WriteIs row.writes

  -- the content of a world is all right
  pub record ContentIs (world : World) : Type 0 where
    pub log : AllByRecursion (RowIs world.settings.sessions world.counter) world.log
    pub marks : (session mark : ℕ) → get world.marks session ≡ Some mark → IsSession world.settings.sessions session
    pub phases : (session number : ℕ) (phase : ReadPhase) → get world.phases (session, number) ≡ Some phase → AllByRecursion ReadIs phase.reads
    pub few : (session number : ℕ) (phase : ReadPhase) → get world.phases (session, number) ≡ Some phase → length phase.reads ≤ MAX_QUESTIONS
    pub table : StateIs world.table
    -- what was folded out of the log
    pub base : StateIs world.base.state
    pub folded : (session number : ℕ) → get world.base.last session ≡ Some number → IsSession world.settings.sessions session

  abbrev pub OperationIs : Operation → Type 0
  OperationIs (Get place key) = Askable (One place key)
  OperationIs (Scan place lower upper) = Askable (Span place lower upper)
  OperationIs (Put place key row) = Askable (One place key) × Storable place row
  OperationIs (Delete place key) = Askable (One place key)
  OperationIs (Add place key n) = Askable (One place key) × ((m : ℤ) → Storable place (Int (held_sum m n) ∷ []))

  abbrev pub ItemIs : Item → Type 0
  ItemIs (Request number start writes) = AllByRecursion WriteIs writes
  ItemIs (Alone number operations) = AllByRecursion OperationIs operations
  ItemIs (Close number) = Unit {0}

  -- what an event brings is all right
  abbrev pub EventIs : Event → Type 0
  EventIs (Read session number start question) = Askable question
  EventIs (Forget session number) = Unit {0}
  EventIs (Enter session item) = ItemIs item
  EventIs (Decide session) = Unit {0}
  EventIs (WriteOne session) = Unit {0}
  EventIs (Finish session) = Unit {0}
  EventIs (BackUp session) = Unit {0}
  EventIs (SerialEnd session item) = ItemIs item
  EventIs (RunAlone session number operations) = AllByRecursion OperationIs operations
  EventIs Checkpoint = Unit {0}

-- a question that fits a schema
abbrev pub QuestionFits : Schema → Question → Type 0
QuestionFits schema question = check_question schema question ≡ None

-- a row that fits its table of a schema
abbrev pub RowFits : Schema → ℕ → Row → Type 0
RowFits schema place row = check_row schema place row ≡ None

-- the content of a world fits its own tables, and its sessions are those that there are
abbrev pub IsInSchema : World → Type 0
IsInSchema world = ContentIs (QuestionFits world.settings.schema) (RowFits world.settings.schema) world

-- what a running core rests on: what every step keeps
pub record IsLawful (world : World) : Type 0 where
  pub invariant : Invariant world
  pub content : IsInSchema world
