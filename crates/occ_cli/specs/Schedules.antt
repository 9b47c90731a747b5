-- A schedule from its first line to its last, and the text that its replay writes (our own choice).
use Rattle.std.specs.Prelude.{◌≡◌, ◌≢◌, ◌-◌, ◌^◌, ◌⊎◌, ℕ, Bool, true, false, List, [], ◌∷◌, ◌++◌, map, Option, Result, Ok, Err, All}
use Rattle.std.specs.Io.KnownBytes.{Keeps, Appends, IsAtEnd}
use Rattle.occ_types.specs.Schema.{Schema}
use Rattle.occ_types.specs.declared.fault.Fault.TheVariants as faults
use Rattle.occ_model.specs.Log.{Audited}
use Rattle.occ_model.specs.World.{World, low}
use Rattle.occ_text.specs.declared.trouble.Trouble.{Trouble}
use Rattle.occ_text.specs.declared.trouble.Trouble.TheVariants.{Read, Write, Memory, Malformed}
use Rattle.occ_cli.specs.Answers.{Answer, answer_text}
use Rattle.occ_cli.specs.Answers as says
use Rattle.occ_print.specs.Books.{Book, book_lines, audit_line}
use Rattle.occ_text.specs.Headers.{Header, HeaderFits, header_text}
use Rattle.occ_text.specs.Languages.{Position, Took, Stopped, Torn, Uncounted, start}
use Rattle.occ_text.specs.Line.{lines_text}
use Rattle.occ_text.specs.ScheduleLines.{Place, Version, Steps, HasLine, schedules}
use Rattle.occ_cli.specs.Replaying.{Replayed, Plays, started}
use Rattle.occ_text.specs.Steps.{Step, step_text}

-- one step of a schedule, with its answer
abbrev pub Turn : Type 0
Turn = Step × Answer

-- Steps are done and answered one after another. No answer tells of a want of memory: a replay ends at one.
abbrev pub PlaysAll : Replayed → List Turn → Replayed → Type 0
PlaysAll old [] new = new ≡ old
PlaysAll old (turn ∷ turns) new = (next : Replayed) × Plays old turn.0 turn.1 next × (turn.1 ≢ says.refused faults.Memory) × PlaysAll next turns new

-- a schedule so far: its header, its steps with their answers, and the store and the clients after them
pub record Schedule : Type 0 where
  pub header : Header
  pub turns : List Turn
  pub state : Replayed

-- the store and the clients that a header opens
abbrev pub opened_by : Header → Replayed
opened_by header = started (record { schema = header.tables; sessions = header.sessions; keep = header.keep }) header.queue

pub record IsReplayed (schedule : Schedule) : Type 0 where
  pub header : HeaderFits schedule.header
  pub steps : All (λ turn. HasLine schedule.header.version turn.0) schedule.turns
  pub played : PlaysAll (opened_by schedule.header) schedule.turns schedule.state

abbrev pub step_lines : List Turn → List (List ℕ)
step_lines turns = map (λ turn. step_text turn.0) turns

abbrev pub schedule_lines : Schedule → List (List ℕ)
schedule_lines schedule = header_text schedule.header ++ step_lines schedule.turns

-- the lines of the answers, or none of them, where the store has these tables
abbrev pub answer_lines : Bool → Schema → List Turn → List (List ℕ)
answer_lines true schema turns = []
answer_lines false schema turns = map (λ turn. answer_text schema turn.1) turns

-- the book of a world
abbrev pub book_at : Header → World → Book
book_at header world = record {
  header = header;
  base = world.base;
  log = world.log;
  marks = world.marks;
  state = world.table;
  counter = world.counter;
  low = low world;
}

-- the book of what came of a schedule
abbrev pub book_after : Schedule → Book
book_after schedule = book_at schedule.header schedule.state.world

-- the audit of that book
abbrev pub IsAudited : Book → Type 0
IsAudited book = Audited book.base book.marks book.state book.log

-- what is written behind the answers
abbrev pub closing_lines : Book → List (List ℕ)
closing_lines book = book_lines book ++ audit_line true ∷ []

-- what a whole replay writes
abbrev pub replay_lines : Bool → Schedule → List (List ℕ)
replay_lines quiet schedule = answer_lines quiet schedule.header.tables schedule.turns ++ closing_lines (book_after schedule)

-- where a schedule stands behind its steps
abbrev pub place_behind : Schedule → Place
place_behind schedule = Steps schedule.header (map (λ turn. turn.0) schedule.turns)

module _ (quiet : Bool) (Said : List ℕ → Type 0) where
  -- the answers to the steps that stand before a place were said, and nothing else
  abbrev pub Answers : Place → Type 0
  Answers (Steps header before) = (schedule : Schedule) × IsReplayed schedule × (place_behind schedule ≡ Steps header before) × Said (lines_text (answer_lines quiet schedule.header.tables schedule.turns))
  Answers place = Said []

-- The text of a reader, by where its replay ended. `Wrote` tells what was written, `WroteFront` of what text a beginning was.
module _ (quiet : Bool) (before : Option (List ℕ)) (Wrote WroteFront : List ℕ → Type 0) where
  -- The line of this number is malformed, and all before it were taken and answered. Where all lines that have a number of 64 bits were taken and answered, it is the last of them.
  abbrev pub IsMalformedAt : ℕ → Type 0
  IsMalformedAt number = ((stopped : Stopped schedules Version (start before) number) × Answers quiet Wrote stopped.place)
      ⊎ ((uncounted : Uncounted schedules Version (start before)) × (number ≡ 2 ^ 64 - 1) × Answers quiet Wrote uncounted.place)

  -- A read failed: all that the reader gave is the lines that were taken and answered, and a part of another. `after` is what it has left.
  abbrev pub IsUnreadable : Option (List ℕ) → Type 0
  IsUnreadable after = (torn : Torn schedules Version (start before) after) × Answers quiet Wrote torn.place

  -- a beginning of the text was written: of the answers to the lines that were taken, or at their end of the whole
  pub data IsCutShort : Type 0 where
    CutAmid : (place : Place) (rest : Position) (lines : List (List ℕ)) → Took schedules Version place (start before) rest lines → Answers quiet WroteFront place → IsCutShort
    CutAtEnd : (schedule : Schedule) (rest : Position) → Took schedules Version (place_behind schedule) (start before) rest (schedule_lines schedule) → IsReplayed schedule → IsAtEnd rest.left → IsAudited (book_after schedule)
        → WroteFront (lines_text (replay_lines quiet schedule)) → IsCutShort

  -- what a replay leaves, by its outcome, where `after` is what the reader has left at the end
  abbrev pub ReplayGives : {T : Type 0} → Result T Trouble → Option (List ℕ) → Type 0
  ReplayGives (Ok done) after =
      (schedule : Schedule) × (rest : Position) × Took schedules Version (place_behind schedule) (start before) rest (schedule_lines schedule) × IsReplayed schedule × IsAtEnd rest.left × Keeps rest.left after
      × IsAudited (book_after schedule) × Wrote (lines_text (replay_lines quiet schedule))
  ReplayGives (Err (Malformed number)) after = IsMalformedAt number
  ReplayGives (Err Read) after = IsUnreadable after
  ReplayGives (Err Write) after = IsCutShort
  ReplayGives (Err Memory) after = IsCutShort

-- a beginning of a text was written
pub record AppendsFront (before after : Option (List ℕ)) (text : List ℕ) : Type 0 where
  pub front : List ℕ
  pub rest : List ℕ
  pub whole : text ≡ front ++ rest
  pub written : Appends before after front
