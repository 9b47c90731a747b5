-- Reading what a line names under a schema: tables, and keys and rows that fit them.
use Rattle.std.specs.Prelude.{ℕ, Bool, false, List, Option, Some, None, option_map, option_and_then}
use Rattle.std.specs.List.{position}
use Rattle.std.specs.Option.{option_map_or}
use Rattle.occ_types.specs.declared.fault.Fault.{Fault}
use Rattle.occ_types.specs.Key.{Key}
use Rattle.occ_types.specs.Object.{Object}
use Rattle.occ_types.specs.Row.{Row}
use Rattle.occ_types.specs.Schema.{Schema, check_key, check_row, has_name}
use Rattle.occ_text.specs.declared.versions.Version.{Version}
use Rattle.occ_text.specs.Reading.{name_of}
use Rattle.occ_text.specs.Escapes.{key_takes, read_key, read_row}
use Rattle.occ_text.specs.StepReading.{◌>>=◌}
use Rattle.occ_text.specs.Fields.{Tokens, before, next_token}
use Rattle.occ_text.specs.ValueFields.{next_takes}

-- what has a fault is not read
abbrev pub unless_fault : Option Fault → Option (Unit {0})
unless_fault None = Some tt
unless_fault (Some fault) = None

-- the place of the table of a name
unfoldable pub place_of : Schema → List ℕ → Option ℕ
place_of schema token = option_and_then (λ name. position (has_name name) schema) (name_of token)

-- a key of the table at a place, in a text of a version
unfoldable pub key_in : Version → Schema → ℕ → List ℕ → Option Key
key_in version schema table token = do
  key ← read_key version token
  good ← unless_fault (check_key schema table key)
  Some key

-- a row of the table at a place
unfoldable pub row_in : Schema → ℕ → List ℕ → Option Row
row_in schema table token = do
  row ← read_row token
  good ← unless_fault (check_row schema table row)
  Some row

unfoldable pub next_table : Schema → Tokens → Option (ℕ × Tokens)
next_table schema tokens = option_and_then (λ t. before t.1 (place_of schema t.0)) (next_token tokens)

unfoldable pub next_key : Version → Schema → ℕ → Tokens → Option (Key × Tokens)
next_key version schema table tokens = option_and_then (λ t. before t.1 (key_in version schema table t.0)) (next_token tokens)

unfoldable pub next_row : Schema → ℕ → Tokens → Option (Row × Tokens)
next_row schema table tokens = option_and_then (λ t. before t.1 (row_in schema table t.0)) (next_token tokens)

-- a table and a key in it
unfoldable pub next_object : Version → Schema → Tokens → Option (Object × Tokens)
next_object version schema tokens = option_and_then (λ table. option_map (λ key. ((table.0, key.0), key.1)) (next_key version schema table.0 table.1)) (next_table schema tokens)

-- what is read of a table's name and a key takes memory: the name is that of a table, and the key takes some (our own choice)
unfoldable pub object_takes : Version → Schema → Tokens → Bool
object_takes version schema tokens = option_map_or (λ table. next_takes (key_takes version) table.1) (next_table schema tokens) false
