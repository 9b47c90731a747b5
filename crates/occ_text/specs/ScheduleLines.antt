-- Where a schedule stands behind some of its lines, and which lines may come next there (our own choice; decided line by line, so that a schedule is malformed at the first line that can't stand).
use Rattle.std.specs.Prelude.{◌≤◌, ℕ, List, [], ◌∷◌, ◌++◌, All, map, length, Result, Ok, Err, codes}
use Rattle.occ_types.specs.Schema.{Table, Schema}
use Rattle.occ_text.specs.declared.faults.ReadFault.{ReadFault}
use Rattle.occ_text.specs.declared.headers.Limits.{Limits}
use Rattle.occ_text.specs.declared.versions.Version as versions
use Rattle.occ_text.specs.Headers.{Header, HeaderFits, header_text, version_text}
use Rattle.occ_text.specs.Languages.{Grammar, Language, Position, Took, FailsAt, lines_of, counts_of}
use Rattle.occ_text.specs.Steps.{Step, StepFits, step_text}
use Rattle.occ_text.specs.TableTaking.{further_lines}

abbrev pub limits_with : versions.Version → ℕ → ℕ → ℕ → Limits
limits_with version sessions queue keep = record { version = version; sessions = sessions; queue = queue; keep = keep }

abbrev pub with_tables : Limits → Schema → Header
with_tables limits tables = record { version = limits.version; sessions = limits.sessions; queue = limits.queue; keep = limits.keep; tables = tables }

-- a step that has a line: of at most 8,192 bytes
pub record HasLine (version : versions.Version) (step : Step) : Type 0 where
  pub fits : StepFits version step
  pub short : length (step_text step) ≤ 8192

-- what has such lines
pub record ScheduleFits (header : Header) (steps : List Step) : Type 0 where
  pub opening : HeaderFits header
  pub each : All (HasLine header.version) steps

-- the lines of a schedule
abbrev pub schedule_lines : Header → List Step → List (List ℕ)
schedule_lines header steps = header_text header ++ map step_text steps

-- the line behind those of tables
abbrev pub steps_text : Unit {0} → List ℕ
steps_text steps = codes "steps"

-- what comes next
pub data Place : Type 0 where
  Version : Place
  Sessions : versions.Version → Place
  Queue : versions.Version → (sessions : ℕ) → Place
  Keep : versions.Version → (sessions : ℕ) → (queue : ℕ) → Place
  Tables : Limits → (tables : List Table) → Place
  -- behind some steps, where the text may end
  Steps : Header → (before : List Step) → Place

abbrev pub grammar : Place → Grammar Place
grammar Version = lines_of version_text (λ version. Unit {0}) Sessions
grammar (Sessions version) = counts_of (codes "sessions") 1 64 (Queue version)
grammar (Queue version sessions) = counts_of (codes "queue") 1 1024 (Keep version sessions)
grammar (Keep version sessions queue) = counts_of (codes "keep") 1 4096 (λ keep. Tables (limits_with version sessions queue keep) [])
grammar (Tables limits tables) = further_lines limits.version steps_text (λ steps. Unit {0}) tables (Tables limits) (λ steps. Steps (with_tables limits tables) [])
grammar (Steps header before) = lines_of step_text (HasLine header.version) (λ step. Steps header (before ++ step ∷ []))

-- a text may end here
abbrev pub MayEnd : Place → Type 0
MayEnd (Steps header before) = Unit {0}
MayEnd place = ⊥

-- schedules
abbrev pub schedules : Language
schedules = record { Place = Place; grammar = grammar; MayEnd = MayEnd }

-- ---- the header

-- the header isn't whole
abbrev pub IsOpening : Place → Type 0
IsOpening (Steps header before) = ⊥
IsOpening place = Unit {0}

-- what taking a part of a header leaves, by its outcome: where it fails, the header isn't whole
abbrev pub OpeningTaken : {X : Type 0} → Result X ReadFault → Place → (X → Place) → (X → List (List ℕ)) → (X → Type 0) → Position → Position → Type 0
OpeningTaken (Ok x) from to lines fits before after = Took schedules from (to x) before after (lines x) × fits x
OpeningTaken (Err fault) from to lines fits before after = FailsAt schedules IsOpening fault from before after.left

-- a whole header is taken from the beginning of a text
abbrev pub HeaderTaken : {X : Type 0} → (X → Header) → Result X ReadFault → Position → Position → Type 0
HeaderTaken view result = OpeningTaken result Version (λ x. Steps (view x) []) (λ x. header_text (view x)) (λ x. HeaderFits (view x))
