-- The steps of a schedule, as plain data, and the one spelling of each (our own choice).
use Rattle.std.specs.Prelude.{◌≤◌, ◌-◌, ◌^◌, ◌<◌, ℕ, List, [], ◌∷◌, Option, All, length, map, codes}
use Rattle.std.specs.Fmt.{decimal}
use Rattle.occ_types.specs.Key.{Key}
use Rattle.occ_types.specs.Row.{Row}
use Rattle.occ_types.specs.PlainData.{key_of, end_of}
use Rattle.occ_types.specs.Spelling.{key_text, row_text}
use Rattle.occ_text.specs.Spelling.{line_text, end_text, IsName, KeyFits, EndFits, RowFits}
use Rattle.occ_text.specs.Operations.{Operation, operation_of, operation_text, OperationFits}
use Rattle.occ_text.specs.declared.versions.Version.{Version}
use Rattle.occ_text.specs.declared.steps.Act.{Act}
use Rattle.occ_text.specs.declared.steps.Act.TheVariants as acts
use Rattle.occ_text.specs.declared.steps.Step as code_step
use Rattle.occ_text.specs.declared.steps.Step.TheVariants as steps

-- the session comes first, then the name of a table; a range may lack an end
pub data Step : Type 0 where
  Does : Act → ℕ → Step
  Get : ℕ → List ℕ → Key → Step
  Scan : ℕ → List ℕ → Option Key → Option Key → Step
  Put : ℕ → List ℕ → Key → Row → Step
  Delete : ℕ → List ℕ → Key → Step
  -- the number and the start of the transaction stand before the name
  Forge : ℕ → ℕ → ℕ → Step
  RawRead : ℕ → ℕ → ℕ → List ℕ → Key → Step
  -- its operations, in their order
  Alone : ℕ → List Operation → Step
  Show : Step
  Checkpoint : Step

module _ {Z : Type 0} where
  -- the plain step
  abbrev pub step_of : code_step.Step Z → Step
  step_of (steps.Does act session) = Does act session
  step_of (steps.Get session table key) = Get session table.now (key_of key)
  step_of (steps.Scan session table lower upper) = Scan session table.now (end_of lower) (end_of upper)
  step_of (steps.Put session table key row) = Put session table.now (key_of key) row
  step_of (steps.Delete session table key) = Delete session table.now (key_of key)
  step_of (steps.Forge session number start) = Forge session number start
  step_of (steps.RawRead session number start table key) = RawRead session number start table.now (key_of key)
  step_of (steps.Alone session operations) = Alone session (map operation_of operations.items)
  step_of steps.Show = Show
  step_of steps.Checkpoint = Checkpoint

-- the word of what names a session and nothing else
abbrev pub act_word : Act → List ℕ
act_word acts.Begin = codes "begin"
act_word acts.Abandon = codes "abandon"
act_word acts.Submit = codes "submit"
act_word acts.Close = codes "close"
act_word acts.Enter = codes "enter"
act_word acts.Serial = codes "serial"
act_word acts.Decide = codes "decide"
act_word acts.Write = codes "write"
act_word acts.Finish = codes "finish"
act_word acts.BackUp = codes "backup"

-- the tokens of a step
abbrev pub step_tokens : Step → List (List ℕ)
step_tokens (Does act session) = act_word act ∷ decimal session ∷ []
step_tokens (Get session table key) = codes "get" ∷ decimal session ∷ table ∷ key_text key ∷ []
step_tokens (Scan session table lower upper) = codes "scan" ∷ decimal session ∷ table ∷ end_text lower ∷ end_text upper ∷ []
step_tokens (Put session table key row) = codes "put" ∷ decimal session ∷ table ∷ key_text key ∷ row_text row ∷ []
step_tokens (Delete session table key) = codes "delete" ∷ decimal session ∷ table ∷ key_text key ∷ []
step_tokens (Forge session number start) = codes "forge" ∷ decimal session ∷ decimal number ∷ decimal start ∷ []
step_tokens (RawRead session number start table key) = codes "rawread" ∷ decimal session ∷ decimal number ∷ decimal start ∷ table ∷ key_text key ∷ []
step_tokens (Alone session operations) = codes "alone" ∷ decimal session ∷ map operation_text operations
step_tokens Show = codes "show" ∷ []
step_tokens Checkpoint = codes "checkpoint" ∷ []

-- the line of a step, without its line feed
abbrev pub step_text : Step → List ℕ
step_text step = line_text (step_tokens step)

-- what has a line: sessions up to 255, numbers of 32 bits and starts of 64, and what its tokens may spell
abbrev pub StepFits : Version → Step → Type 0
StepFits version (Does act session) = session ≤ 255
StepFits version (Get session table key) = (session ≤ 255) × IsName table × KeyFits version key
StepFits version (Scan session table lower upper) = (session ≤ 255) × IsName table × EndFits version lower × EndFits version upper
StepFits version (Put session table key row) = (session ≤ 255) × IsName table × KeyFits version key × RowFits row
StepFits version (Delete session table key) = (session ≤ 255) × IsName table × KeyFits version key
StepFits version (Forge session number start) = (session ≤ 255) × (number ≤ 2 ^ 32 - 1) × (start ≤ 2 ^ 64 - 1)
StepFits version (RawRead session number start table key) = (session ≤ 255) × (number ≤ 2 ^ 32 - 1) × (start ≤ 2 ^ 64 - 1) × IsName table × KeyFits version key
StepFits version (Alone session operations) = (session ≤ 255) × (0 < length operations) × All (OperationFits version) operations
StepFits version Show = Unit {0}
StepFits version Checkpoint = Unit {0}
