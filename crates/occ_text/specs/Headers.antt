-- The header of a schedule, as plain data, and the one spelling of each of its lines (our own choice).
use Rattle.std.specs.Prelude.{◌≡◌, ◌<◌, ◌≤◌, ℕ, None, List, [], ◌∷◌, ◌++◌, map, length, All, codes}
use Rattle.std.specs.Fmt.{decimal}
use Rattle.std.specs.List.{join_with_byte}
use Rattle.occ_types.specs.declared.kind.Kind.{Kind}
use Rattle.occ_types.specs.declared.kind.Kind.TheVariants as cells
use Rattle.occ_types.specs.declared.kind.KeyKind.{KeyKind}
use Rattle.occ_types.specs.declared.kind.KeyKind.TheVariants as keys
use Rattle.occ_types.specs.declared.kind.PartKind.{PartKind}
use Rattle.occ_types.specs.declared.kind.PartKind.TheVariants as parts
use Rattle.occ_types.specs.Schema.{Table, Schema, check_tables}
use Rattle.occ_text.specs.declared.headers.Limits.{Limits}
use Rattle.occ_text.specs.declared.versions.Version.{Version}
use Rattle.occ_text.specs.declared.versions.Version.TheVariants.{One, Two}
use Rattle.occ_text.specs.Spelling.{line_text, IsName}

pub record Header : Type 0 where
  pub version : Version
  pub sessions : ℕ
  pub queue : ℕ
  pub keep : ℕ
  pub tables : Schema

-- what its first lines say
abbrev pub limits_of : Header → Limits
limits_of header = record { version = header.version; sessions = header.sessions; queue = header.queue; keep = header.keep }

-- the first line of a text
abbrev pub version_text : Version → List ℕ
version_text One = codes "occ 1"
version_text Two = codes "occ 2"

abbrev pub part_kind_word : PartKind → List ℕ
part_kind_word parts.Num = codes "num"
part_kind_word parts.Text = codes "text"

-- the kind of pairs is those of their parts, with one `+` between them
abbrev pub key_kind_word : KeyKind → List ℕ
key_kind_word keys.Num = codes "num"
key_kind_word keys.Text = codes "text"
key_kind_word (keys.Pair first second) = join_with_byte 43 (part_kind_word first ∷ part_kind_word second ∷ [])

abbrev pub kind_word : Kind → List ℕ
kind_word cells.Int = codes "int"
kind_word cells.Text = codes "text"

-- the tokens of a table's line
abbrev pub table_tokens : Table → List (List ℕ)
table_tokens table = codes "table" ∷ table.name ∷ key_kind_word table.key ∷ map kind_word table.columns

-- the line of a table
abbrev pub table_text : Table → List ℕ
table_text table = line_text (table_tokens table)

-- the line of a count
abbrev pub count_text : List ℕ → ℕ → List ℕ
count_text word n = line_text (word ∷ decimal n ∷ [])

-- the first lines of a schedule or a book, without their line feeds: the version of the texts, and the limits
abbrev pub limits_lines : Limits → List (List ℕ)
limits_lines limits =
    version_text limits.version
    ∷ count_text (codes "sessions") limits.sessions
    ∷ count_text (codes "queue") limits.queue
    ∷ count_text (codes "keep") limits.keep
    ∷ []

-- the lines of a header, without their line feeds
abbrev pub header_text : Header → List (List ℕ)
header_text header = limits_lines (limits_of header) ++ (map table_text header.tables ++ codes "steps" ∷ [])

-- a count within its limits
pub record Within (least most n : ℕ) : Type 0 where
  pub least_count : least ≤ n
  pub most_count : n ≤ most

-- a table that may stand in a schema
pub record TableFits (table : Table) : Type 0 where
  pub name : IsName table.name
  pub some : 0 < length table.columns
  pub few : length table.columns ≤ 8

-- keys of two parts stand in texts of version 2 alone
abbrev pub KindFits : Version → KeyKind → Type 0
KindFits version keys.Num = Unit {0}
KindFits version keys.Text = Unit {0}
KindFits version (keys.Pair first second) = version ≡ Two

-- the keys of each table are of a kind that the version has
abbrev pub KindsFit : Version → List Table → Type 0
KindsFit version tables = All (λ table. KindFits version table.key) tables

-- a table that has a line in texts of a version
pub record TableHasLine (version : Version) (table : Table) : Type 0 where
  pub fits : TableFits table
  pub key : KindFits version table.key

-- counts within their limits
pub record LimitsFit (limits : Limits) : Type 0 where
  pub sessions : Within 1 64 limits.sessions
  pub queue : Within 1 1024 limits.queue
  pub keep : Within 1 4096 limits.keep

-- what has header lines: counts within their limits, and tables that make a schema, with kinds of keys that the version has
pub record HeaderFits (header : Header) : Type 0 where
  pub sessions : Within 1 64 header.sessions
  pub queue : Within 1 1024 header.queue
  pub keep : Within 1 4096 header.keep
  pub tables : check_tables header.tables ≡ None
  pub kinds : KindsFit header.version header.tables
