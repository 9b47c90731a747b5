-- Taking the lines of tables from an input, and the line behind them, whatever that one tells.
use Rattle.std.specs.Prelude.{◌≡◌, ◌+◌, ℕ, List, [], ◌∷◌, ◌++◌, map, length, Option, Some, None, Result, Ok, Err}
use Rattle.std.specs.Io.KnownBytes.{Consumes}
use Rattle.occ_types.specs.Schema.{Table, check_tables}
use Rattle.occ_text.specs.declared.tokens.Unread.{Unread}
use Rattle.occ_text.specs.declared.tokens.Unread.TheVariants as unread
use Rattle.occ_text.specs.declared.versions.Version.{Version}
use Rattle.occ_text.specs.declared.faults.ReadFault.{ReadFault}
use Rattle.occ_text.specs.declared.faults.ReadFault.TheVariants as faults
use Rattle.occ_text.specs.Headers.{table_text}
use Rattle.occ_text.specs.HeaderTaking.{TablesSoFar, table_behind}
use Rattle.occ_text.specs.Languages.{Grammar, lines_of}
use Rattle.occ_text.specs.Line.{IsLine, NoneTaken, lines_text}

-- ---- which line may stand behind those of tables

-- what it tells: one table more, or what stands behind them all
pub data Further (T : Type 0) : Type 0 where
  OneTable : Table → Further T
  Behind : T → Further T

abbrev pub further_text : {T : Type 0} → (T → List ℕ) → Further T → List ℕ
further_text spell (OneTable table) = table_text table
further_text spell (Behind x) = spell x

-- what stands behind them all stands behind tables that make a schema
abbrev pub MayFollow : {T : Type 0} → Version → (T → Type 0) → List Table → Further T → Type 0
MayFollow version fits tables (OneTable table) = TablesSoFar version (tables ++ table ∷ [])
MayFollow version fits tables (Behind x) = (check_tables tables ≡ None) × fits x

abbrev pub to_further : {Place T : Type 0} → List Table → (List Table → Place) → (T → Place) → Further T → Place
to_further tables at behind (OneTable table) = at (tables ++ table ∷ [])
to_further tables at behind (Behind x) = behind x

-- the lines that may stand behind those of tables, where `at` is the place behind some, and `behind` that behind what stands behind all
abbrev pub further_lines : {Place T : Type 0} → Version → (T → List ℕ) → (T → Type 0) → List Table → (List Table → Place) → (T → Place) → Grammar Place
further_lines version spell fits tables at behind = lines_of (further_text spell) (MayFollow version fits tables) (to_further tables at behind)

-- ---- taking them

-- what is none is passed by, unless memory was refused for it
abbrev pub if_read : {X : Type 0} → Result X Unread → Result (Option X) ReadFault
if_read (Ok x) = Ok (Some x)
if_read (Err unread.Malformed) = Ok None
if_read (Err unread.Memory) = Err faults.Memory

-- a line was taken that tells no table behind others
pub record OtherTaken (version : Version) (tables : List Table) (line : List ℕ) (before after : Option (List ℕ)) (first last : ℕ) : Type 0 where
  pub taken : Consumes before after (line ++ 10 ∷ [])
  pub alone : IsLine line
  pub none : table_behind version tables line ≡ None
  pub number : last ≡ first + 1

-- the line behind those of tables is taken, whatever it tells
abbrev pub NextTaken : {X : Type 0} → Version → (X → Table) → Result (Option X) ReadFault → List Table → List ℕ → Option (List ℕ) → Option (List ℕ) → ℕ → ℕ → Type 0
NextTaken version view (Ok None) tables line before after first last = OtherTaken version tables line before after first last
NextTaken version view (Ok (Some x)) tables line before after first last = Consumes before after (table_text (view x) ++ 10 ∷ []) × TablesSoFar version (tables ++ view x ∷ []) × (last ≡ first + 1)
NextTaken version view (Err fault) tables line before after first last = NoneTaken (λ line. Unit {0}) fault before after first

-- the lines of tables were taken that further ones may make a schema of
pub record TablesRead (version : Version) (tables : List Table) (before rest : Option (List ℕ)) (first next : ℕ) : Type 0 where
  pub taken : Consumes before rest (lines_text (map table_text tables))
  pub so_far : TablesSoFar version tables
  pub number : next ≡ first + length tables

-- and behind them a line that tells none
pub record TablesTold (version : Version) (tables : List Table) (line : List ℕ) (before after : Option (List ℕ)) (first last : ℕ) : Type 0 where
  pub rest : Option (List ℕ)
  pub next : ℕ
  pub read : TablesRead version tables before rest first next
  pub other : OtherTaken version tables line rest after next last

-- or no line at all
pub record TablesCut (version : Version) (fault : ReadFault) (before after : Option (List ℕ)) (first : ℕ) : Type 0 where
  pub tables : List Table
  pub rest : Option (List ℕ)
  pub next : ℕ
  pub read : TablesRead version tables before rest first next
  pub cut : NoneTaken (λ line. Unit {0}) fault rest after next

-- what taking the lines of tables and the one behind them leaves, by its outcome
abbrev pub TablesTaken : {X : Type 0} → Version → (X → List Table) → Result X ReadFault → List ℕ → Option (List ℕ) → Option (List ℕ) → ℕ → ℕ → Type 0
TablesTaken version view (Ok x) line before after first last = TablesTold version (view x) line before after first last
TablesTaken version view (Err fault) line before after first last = TablesCut version fault before after first
