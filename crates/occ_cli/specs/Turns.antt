-- What the parts of a replay leave, by their outcomes.
use Rattle.std.specs.Prelude.{◌≡◌, ◌≢◌, ◌+◌, ◌-◌, ◌^◌, ◌⊎◌, ℕ, Bool, true, false, List, [], ◌∷◌, ◌++◌, length, Option, Result, Ok, Err, IfSome, All}
use Rattle.std.specs.Bool.{Decides}
use Rattle.std.specs.Io.KnownBytes.{Consumes, Keeps, IsAtEnd}
use Rattle.occ_types.specs.Schema.{Schema}
use Rattle.occ_types.specs.declared.fault.Fault.TheVariants as faults
use Rattle.occ_text.specs.declared.faults.WriteFault.{WriteFault}
use Rattle.occ_text.specs.declared.faults.WriteFault.TheVariants as write_faults
use Rattle.occ_text.specs.declared.versions.Version.{Version}
use Rattle.occ_text.specs.declared.trouble.Trouble.{Trouble}
use Rattle.occ_text.specs.declared.trouble.Trouble.TheVariants.{Read, Write, Memory, Malformed}
use Rattle.occ_cli.specs.Answers.{Answer}
use Rattle.occ_cli.specs.Answers as says
use Rattle.occ_print.specs.Books.{Book, audit_line}
use Rattle.occ_text.specs.Line.{IsLine, BeginsNoLine, lines_text}
use Rattle.occ_cli.specs.Replaying.{Replayed, Plays}
use Rattle.occ_cli.specs.Schedules.{Turn, PlaysAll, step_lines, answer_lines, IsAudited, closing_lines}
use Rattle.occ_text.specs.ScheduleLines.{HasLine}
use Rattle.occ_text.specs.Steps.{Step, StepFits, step_text}

-- whether no more is written: the writer failed, or memory was refused
abbrev pub is_cut_short : {T : Type 0} → Result T Trouble → Bool
is_cut_short (Ok done) = false
is_cut_short (Err (Malformed number)) = false
is_cut_short (Err Read) = false
is_cut_short (Err Write) = true
is_cut_short (Err Memory) = true

-- what stands next is no line of a step in a text of this version: no line stands there, or another one
pub data IsNoStep (version : Version) (rest : Option (List ℕ)) : Type 0 where
  NoLineThere : IfSome rest BeginsNoLine → IsNoStep version rest
  LineOfNoStep : (line : List ℕ) (after : Option (List ℕ)) → Consumes rest after (line ++ 10 ∷ []) → IsLine line → ((step : Step) → StepFits version step → line ≢ step_text step) → IsNoStep version rest

-- the line of this number is malformed behind so many lines: the next one is no line of a step, or those are all that have a number of 64 bits, and it is the last of them
abbrev pub IsNoTurn : Version → Option (List ℕ) → ℕ → ℕ → Type 0
IsNoTurn version rest taken number = (IsNoStep version rest × (number ≡ taken + 1)) ⊎ ((taken ≡ 2 ^ 64 - 1) × (number ≡ 2 ^ 64 - 1))

-- a step is done and answered
pub record IsTurn (old : Replayed) (step : Step) (answer : Answer) (new : Replayed) : Type 0 where
  pub plays : Plays old step answer new
  pub fed : answer ≢ says.refused faults.Memory

module _ (quiet : Bool) (schema : Schema) (Wrote WroteFront : List ℕ → Type 0) where
  -- a step was done, and a beginning of its answer was written
  pub record IsHalfSaid (step : Step) (old new : Replayed) : Type 0 where
    pub answer : Answer
    pub turn : IsTurn old step answer new
    pub wrote : WroteFront (lines_text (answer_lines quiet schema ((step, answer) ∷ [])))

  -- what doing and answering a step leaves
  abbrev pub AnswerGives : {T : Type 0} → Result T WriteFault → Step → Replayed → Replayed → Type 0
  AnswerGives (Ok done) step old new = (answer : Answer) × IsTurn old step answer new × Wrote (lines_text (answer_lines quiet schema ((step, answer) ∷ [])))
  AnswerGives (Err write_faults.Write) step old new = IsHalfSaid step old new
  AnswerGives (Err write_faults.Memory) step old new = WroteFront [] ⊎ IsHalfSaid step old new

module _ (quiet : Bool) (version : Version) (schema : Schema) (Wrote WroteFront : List ℕ → Type 0) where
  -- the line of a step was taken, and a beginning of its answer was written
  pub record IsHalfTurn (before rest : Option (List ℕ)) (old new : Replayed) : Type 0 where
    pub step : Step
    pub fits : HasLine version step
    pub taken : Consumes before rest (step_text step ++ 10 ∷ [])
    pub said : IsHalfSaid quiet schema Wrote WroteFront step old new

  -- what one turn leaves, where first and last are how many lines were taken before and after
  abbrev pub TurnGives : Result Bool Trouble → Option (List ℕ) → Option (List ℕ) → ℕ → ℕ → Replayed → Replayed → Type 0
  TurnGives (Ok true) before after first last old new =
      (turn : Turn) × HasLine version turn.0 × Consumes before after (step_text turn.0 ++ 10 ∷ []) × IsTurn old turn.0 turn.1 new × Wrote (lines_text (answer_lines quiet schema (turn ∷ []))) × (last ≡ first + 1)
  TurnGives (Ok false) before after first last old new = IsAtEnd before × Keeps before after × (new ≡ old) × Wrote []
  TurnGives (Err (Malformed number)) before after first last old new = IsNoTurn version before first number × Wrote []
  TurnGives (Err Read) before after first last old new = (part : List ℕ) × IsLine part × Consumes before after part × Wrote []
  TurnGives (Err Write) before after first last old new = IsHalfTurn before after old new
  TurnGives (Err Memory) before after first last old new = WroteFront [] ⊎ IsHalfTurn before after old new

-- some steps were taken from a text, done and answered
pub record AreTurns (version : Version) (before rest : Option (List ℕ)) (old : Replayed) (turns : List Turn) (new : Replayed) : Type 0 where
  pub steps : All (λ turn. HasLine version turn.0) turns
  pub played : PlaysAll old turns new
  pub taken : Consumes before rest (lines_text (step_lines turns))

module _ (quiet : Bool) (version : Version) (schema : Schema) (Wrote WroteFront : List ℕ → Type 0) where
  -- a beginning of the answers was written
  pub record AreHalfSaid (before : Option (List ℕ)) (old : Replayed) : Type 0 where
    pub turns : List Turn
    pub rest : Option (List ℕ)
    pub new : Replayed
    pub are : AreTurns version before rest old turns new
    pub wrote : WroteFront (lines_text (answer_lines quiet schema turns))

  -- what all turns leave
  abbrev pub TurnsGive : {T : Type 0} → Result T Trouble → Option (List ℕ) → Option (List ℕ) → ℕ → Replayed → Replayed → Type 0
  TurnsGive (Ok done) before after first old new = (turns : List Turn) × (rest : Option (List ℕ)) × AreTurns version before rest old turns new × IsAtEnd rest × Keeps rest after × Wrote (lines_text (answer_lines quiet schema turns))
  TurnsGive (Err (Malformed number)) before after first old new =
      (turns : List Turn) × (rest : Option (List ℕ)) × (last : Replayed) × AreTurns version before rest old turns last × IsNoTurn version rest (first + length turns) number × Wrote (lines_text (answer_lines quiet schema turns))
  TurnsGive (Err Read) before after first old new =
      (turns : List Turn) × (part : List ℕ) × (rest : Option (List ℕ)) × (last : Replayed) × AreTurns version before rest old turns last × IsLine part × Consumes rest after part × Wrote (lines_text (answer_lines quiet schema turns))
  TurnsGive (Err Write) before after first old new = AreHalfSaid before old
  TurnsGive (Err Memory) before after first old new = AreHalfSaid before old

-- what stands behind the answers
module _ (Wrote WroteFront : List ℕ → Type 0) where
  -- what a book and its audit leave: the audit holds of it, and says so
  abbrev pub ClosingGives : {T : Type 0} → Result T WriteFault → Book → Type 0
  ClosingGives (Ok done) book = IsAudited book × Wrote (lines_text (closing_lines book))
  ClosingGives (Err fault) book = IsAudited book × WroteFront (lines_text (closing_lines book))

  -- what the line of an audit leaves that tells whether a claim holds
  abbrev pub AuditGives : {T : Type 0} → Result T WriteFault → Type 0 → Type 0
  AuditGives (Ok done) Claim = (holds : Bool) × Decides holds Claim × Wrote (lines_text (audit_line holds ∷ []))
  AuditGives (Err write_faults.Write) Claim = (holds : Bool) × Decides holds Claim × WroteFront (lines_text (audit_line holds ∷ []))
  AuditGives (Err write_faults.Memory) Claim = WroteFront [] ⊎ ((holds : Bool) × Decides holds Claim × WroteFront (lines_text (audit_line holds ∷ [])))
