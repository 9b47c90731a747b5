-- Reading the lines of steps, by their words.
use Rattle.std.specs.Prelude.{◌-◌, ◌^◌, ℕ, List, [], ◌∷◌, ◌++◌, map, Option, Some, None, if◌then◌else◌, option_map, option_and_then, codes}
use Rattle.std.specs.Str.{bytes_eq}
use Rattle.occ_text.specs.declared.steps.Act.{Act}
use Rattle.occ_text.specs.declared.steps.Act.TheVariants.{Begin, Abandon, Submit, Close, Enter, Serial, Decide, Write, Finish, BackUp}
pub use Rattle.occ_text.specs.Reading.{◌>>=◌}
use Rattle.occ_text.specs.Reading.{tokens_of, number_of}
pub use Rattle.occ_text.specs.ValueFields.{next_end}
use Rattle.occ_text.specs.ValueFields.{name, key, end, row}
use Rattle.occ_types.specs.Key.{Key}
use Rattle.occ_types.specs.Row.{Row}
use Rattle.occ_text.specs.Spelling.{line_text}
use Rattle.occ_text.specs.declared.versions.Version.TheVariants.{Two}
use Rattle.occ_text.specs.Fields.{Tokens, Field, Form, at_end, number, lettered, nothing, ◌⊗◌, readers, told_as, by_word}
use Rattle.occ_text.specs.declared.versions.Version.{Version}
use Rattle.occ_text.specs.OperationReading.{operations_letters, operations_of}
use Rattle.occ_text.specs.Steps.{Step, Does, Get, Scan, Put, Delete, Forge, RawRead, Alone, Show, Checkpoint, act_word}

-- ---- what stands behind a word

abbrev pub session : Field ℕ
session = lettered (codes "S") (number 255)

-- the number of a transaction, and its start
abbrev pub transaction : Field ℕ
transaction = number (2 ^ 32 - 1)

abbrev pub start : Field ℕ
start = lettered (codes "START") (number (2 ^ 64 - 1))

-- ---- the forms

abbrev pub act_form : Act → Form Step
act_form act = record { word = act_word act; Told = ℕ; behind = session; to = Does act }

abbrev pub get_form : Version → Form Step
get_form version = record { word = codes "get"; Told = ℕ × (List ℕ × Key); behind = session ⊗ name ⊗ key version; to = λ p. Get p.0 p.1.0 p.1.1 }

abbrev pub delete_form : Version → Form Step
delete_form version = record { word = codes "delete"; Told = ℕ × (List ℕ × Key); behind = session ⊗ name ⊗ key version; to = λ p. Delete p.0 p.1.0 p.1.1 }

abbrev pub put_form : Version → Form Step
put_form version = record { word = codes "put"; Told = ℕ × (List ℕ × (Key × Row)); behind = session ⊗ name ⊗ key version ⊗ row; to = λ p. Put p.0 p.1.0 p.1.1.0 p.1.1.1 }

abbrev pub scan_form : Version → Form Step
scan_form version = record { word = codes "scan"; Told = ℕ × (List ℕ × (Option Key × Option Key)); behind = session ⊗ name ⊗ end version ⊗ end version; to = λ p. Scan p.0 p.1.0 p.1.1.0 p.1.1.1 }

abbrev pub forge_form : Form Step
forge_form = record { word = codes "forge"; Told = ℕ × (ℕ × ℕ); behind = session ⊗ transaction ⊗ start; to = λ p. Forge p.0 p.1.0 p.1.1 }

abbrev pub raw_form : Version → Form Step
raw_form version = record {
  word = codes "rawread";
  Told = ℕ × (ℕ × (ℕ × (List ℕ × Key)));
  behind = session ⊗ transaction ⊗ start ⊗ name ⊗ key version;
  to = λ p. RawRead p.0 p.1.0 p.1.1.0 p.1.1.1.0 p.1.1.1.1;
}

abbrev pub show_form : Form Step
show_form = record { word = codes "show"; Told = Unit {0}; behind = nothing; to = λ none. Show }

abbrev pub checkpoint_form : Form Step
checkpoint_form = record { word = codes "checkpoint"; Told = Unit {0}; behind = nothing; to = λ none. Checkpoint }

abbrev pub acts : List Act
acts = Begin ∷ Abandon ∷ Submit ∷ Close ∷ Enter ∷ Serial ∷ Decide ∷ Write ∷ Finish ∷ BackUp ∷ []

abbrev pub other_forms : Version → List (Form Step)
other_forms version = get_form version ∷ put_form version ∷ scan_form version ∷ delete_form version ∷ forge_form ∷ raw_form version ∷ show_form ∷ checkpoint_form ∷ []

-- all forms but that of a run alone, behind whose session stand operations up to the end of the line
abbrev pub forms : Version → List (Form Step)
forms version = map act_form acts ++ other_forms version

-- all forms as the formats are told
abbrev pub told_forms : List (List ℕ)
told_forms = line_text (codes "alone" ∷ session.letters ++ operations_letters) ∷ map (λ form. line_text (told_as form)) (forms Two)

-- what a word and the tokens behind it say
unfoldable pub next_step : Version → List ℕ × Tokens → Option (Step × Tokens)
next_step version token = by_word (readers (forms version)) token

-- alone S OP ..
unfoldable pub alone_step : Version → List ℕ → List (List ℕ) → Option Step
alone_step version session tokens = do
  s ← number_of 255 session
  o ← operations_of version tokens
  Some (Alone s o)

-- the run alone of some tokens
unfoldable pub alone_of_tokens : Version → List (List ℕ) → Option Step
alone_of_tokens version [] = None
alone_of_tokens version (s ∷ tokens) = alone_step version s tokens

-- the step of some tokens
unfoldable pub step_of_tokens : Version → List (List ℕ) → Option Step
step_of_tokens version [] = None
step_of_tokens version (word ∷ tokens) = if bytes_eq word (codes "alone") then alone_of_tokens version tokens
    else option_and_then (λ step. option_map (λ end. step.0) (at_end step.1)) (next_step version (word, tokens))

-- the step of a line
unfoldable pub step_of_line : Version → List ℕ → Option Step
step_of_line version line = option_and_then (step_of_tokens version) (tokens_of line)
