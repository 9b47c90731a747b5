-- Reading the lines of a header.
use Rattle.std.specs.Prelude.{◌≡◌, ℕ, ◌&&◌, Bool, true, false, List, [], ◌∷◌, Option, Some, None, Result, Ok, Err, is_some, if◌then◌else◌, option_map, option_and_then, nat_le, nat_lt, length, codes}
use Rattle.std.specs.Option.{option_map_or}
use Rattle.std.specs.Str.{bytes_eq}
use Rattle.occ_types.specs.declared.kind.Kind.{Kind}
use Rattle.occ_types.specs.declared.kind.Kind.TheVariants as cells
use Rattle.occ_types.specs.declared.kind.KeyKind.{KeyKind}
use Rattle.occ_types.specs.declared.kind.KeyKind.TheVariants as keys
use Rattle.occ_types.specs.declared.kind.PartKind.TheVariants as parts
use Rattle.occ_types.specs.Schema.{Table}
use Rattle.occ_text.specs.declared.tokens.Unread.{Unread}
use Rattle.occ_text.specs.declared.tokens.Unread.TheVariants as unread
use Rattle.occ_text.specs.declared.faults.ReadFault.{ReadFault}
use Rattle.occ_text.specs.declared.faults.ReadFault.TheVariants as faults
use Rattle.occ_text.specs.declared.versions.Version.{Version}
use Rattle.occ_text.specs.declared.versions.Version.TheVariants.{One, Two}
use Rattle.occ_text.specs.Reading.{◌>>=◌, tokens_of, name_of}
use Rattle.occ_text.specs.Headers.{Within}
use Rattle.occ_text.specs.Fields.{Field, number, after, tested, fitting, of_line}

-- WORD N
abbrev pub count_line : List ℕ → ℕ → ℕ → Field ℕ
count_line word least most = after word (fitting (Within least most) (tested (λ n. nat_le least n) (number most)))

unfoldable pub count_of_line : List ℕ → ℕ → ℕ → List ℕ → Option ℕ
count_of_line word least most line = of_line (count_line word least most) line

-- the version that a text's first line says
unfoldable pub version_of : List ℕ → Option Version
version_of line = if bytes_eq line (codes "occ 1") then Some One else (if bytes_eq line (codes "occ 2") then Some Two else None)

-- the kind of keys of two parts
unfoldable pub pair_kind_of : List ℕ → Option KeyKind
pair_kind_of word = if bytes_eq word (codes "num+num") then Some (keys.Pair parts.Num parts.Num)
    else (if bytes_eq word (codes "num+text") then Some (keys.Pair parts.Num parts.Text)
    else (if bytes_eq word (codes "text+num") then Some (keys.Pair parts.Text parts.Num)
    else (if bytes_eq word (codes "text+text") then Some (keys.Pair parts.Text parts.Text) else None)))

-- the kind of keys of two parts, which version 1 has none of
unfoldable pub newer_kind_of : Version → List ℕ → Option KeyKind
newer_kind_of One word = None
newer_kind_of Two word = pair_kind_of word

unfoldable pub key_kind_of : Version → List ℕ → Option KeyKind
key_kind_of version word = if bytes_eq word (codes "num") then Some keys.Num else (if bytes_eq word (codes "text") then Some keys.Text else newer_kind_of version word)

unfoldable pub kind_of : List ℕ → Option Kind
kind_of word = if bytes_eq word (codes "int") then Some cells.Int else (if bytes_eq word (codes "text") then Some cells.Text else None)

-- kinds, one for each word
abbrev pub kinds_of : List (List ℕ) → Option (List Kind)
kinds_of [] = Some []
kinds_of (word ∷ words) = option_and_then (λ kind. option_map (λ kinds. kind ∷ kinds) (kinds_of words)) (kind_of word)

-- 1 to 8 kinds
abbrev pub if_few : List Kind → Option (List Kind)
if_few kinds = if nat_lt 0 (length kinds) && nat_le (length kinds) 8 then Some kinds else None

unfoldable pub columns_of : List (List ℕ) → Option (List Kind)
columns_of words = option_and_then if_few (kinds_of words)

-- table NAME KEYKIND KIND ..
unfoldable pub table_of_parts : Version → List ℕ → List ℕ → List ℕ → List (List ℕ) → Option Table
table_of_parts version word called keyed words = if bytes_eq word (codes "table") then (do
  name ← name_of called
  key ← key_kind_of version keyed
  columns ← columns_of words
  Some (record { name = name; key = key; columns = columns })) else None

-- the table of some tokens
unfoldable pub table_of_tokens : Version → List (List ℕ) → Option Table
table_of_tokens version [] = None
table_of_tokens version (word ∷ []) = None
table_of_tokens version (word ∷ called ∷ []) = None
table_of_tokens version (word ∷ called ∷ keyed ∷ words) = table_of_parts version word called keyed words

-- the table of a line
unfoldable pub table_of_line : Version → List ℕ → Option Table
table_of_line version line = option_and_then (table_of_tokens version) (tokens_of line)

-- a table's line is malformed, or begins as one does, so that it takes memory (our own choice)
abbrev pub heads_table : Version → List ℕ → List ℕ → List ℕ → Bool
heads_table version word called keyed = bytes_eq word (codes "table") && is_some (name_of called) && is_some (key_kind_of version keyed)

abbrev pub tokens_head_table : Version → List (List ℕ) → Bool
tokens_head_table version [] = false
tokens_head_table version (word ∷ []) = false
tokens_head_table version (word ∷ called ∷ []) = false
tokens_head_table version (word ∷ called ∷ keyed ∷ words) = heads_table version word called keyed

-- the word `table`, a name and a kind of keys stand first
unfoldable pub line_heads_table : Version → List ℕ → Bool
line_heads_table version line = option_map_or (tokens_head_table version) (tokens_of line) false

-- what isn't malformed passes a test
abbrev pub UnlessMalformed : {X : Type 0} → Bool → Result X Unread → Type 0
UnlessMalformed test (Ok x) = test ≡ true
UnlessMalformed test (Err unread.Malformed) = Unit {0}
UnlessMalformed test (Err unread.Memory) = test ≡ true

-- a line passes a test where a table was taken from it, or memory was refused for it
abbrev pub TakesTable : {X : Type 0} → (X → Bool) → Bool → Result X ReadFault → Type 0
TakesTable is_table test (Ok x) = is_table x ≡ true → test ≡ true
TakesTable is_table test (Err faults.Memory) = test ≡ true
TakesTable is_table test (Err faults.Read) = Unit {0}
TakesTable is_table test (Err faults.TooManyLines) = Unit {0}
TakesTable is_table test (Err (faults.Malformed n)) = Unit {0}
