-- Taking the lines of limits from an input, and of tables behind others.
use Rattle.std.specs.Prelude.{◌≡◌, ◌<◌, ◌≤◌, ◌+◌, ◌&&◌, not, ℕ, true, List, [], ◌∷◌, ◌++◌, length, nat_lt, if◌then◌else◌, Option, Some, None, option_and_then, Result, Ok, Err}
use Rattle.std.specs.List.{list_any}
use Rattle.std.specs.Io.KnownBytes.{Consumes}
use Rattle.occ_types.specs.Schema.{Table, are_tables, has_name}
use Rattle.occ_text.specs.declared.headers.Header as code_header
use Rattle.occ_text.specs.declared.headers.Limits.{Limits}
use Rattle.occ_text.specs.declared.versions.Version.{Version}
use Rattle.occ_text.specs.declared.faults.LineFault.{LineFault}
use Rattle.occ_text.specs.Faults.{read_fault}
use Rattle.occ_text.specs.Line.{NoneTaken, lines_text}
use Rattle.occ_text.specs.Headers.{Header, KindsFit, LimitsFit, limits_lines}
use Rattle.occ_text.specs.HeaderReading.{table_of_line}

-- tables that further tables may make a schema of, in a text of a version
pub record TablesSoFar (version : Version) (tables : List Table) : Type 0 where
  pub few : length tables ≤ 32
  pub each : are_tables tables ≡ true
  pub kinds : KindsFit version tables

-- a table that may stand behind others: it isn't one too many, and its name is its own
abbrev pub if_free : List Table → Table → Option Table
if_free tables table = if nat_lt (length tables) 32 && not (list_any (has_name table.name) tables) then Some table else None

-- the table of a line behind others
unfoldable pub table_behind : Version → List Table → List ℕ → Option Table
table_behind version tables line = option_and_then (if_free tables) (table_of_line version line)

-- the first lines of some limits begin so
abbrev pub BeginsLimits : List (List ℕ) → Type 0
BeginsLimits lines = (limits : Limits) × LimitsFit limits × (more : List (List ℕ)) × (limits_lines limits ≡ lines ++ more)

-- the first four lines are taken, or some of them, and behind them none that may come next
abbrev pub LimitsTaken : Result Limits LineFault → Option (List ℕ) → Option (List ℕ) → ℕ → ℕ → Type 0
LimitsTaken (Ok limits) before after first last = Consumes before after (lines_text (limits_lines limits)) × LimitsFit limits × (last ≡ first + 4)
LimitsTaken (Err fault) before after first last =
    (lines : List (List ℕ)) × (rest : Option (List ℕ)) × Consumes before rest (lines_text lines) × BeginsLimits lines × (length lines < 4)
    × NoneTaken (λ line. BeginsLimits (lines ++ line ∷ [])) (read_fault fault) rest after (first + length lines)

module _ {Z : Type 0} where
  -- the plain header
  abbrev pub header_of : code_header.Header Z → Header
  header_of header = record { version = header.limits.version; sessions = header.limits.sessions; queue = header.limits.queue; keep = header.limits.keep; tables = header.schema }
