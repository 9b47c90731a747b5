-- Reading the operations of a run alone, by their words.
use Rattle.std.specs.Prelude.{◌==◌, ℕ, ℤ, List, [], ◌∷◌, ◌++◌, map, Option, Some, None, option_map, option_and_then, codes}
use Rattle.std.specs.List.{slice_split}
use Rattle.occ_types.specs.Key.{Key}
use Rattle.occ_types.specs.Row.{Row}
use Rattle.occ_text.specs.Spelling.{line_text}
use Rattle.occ_text.specs.declared.versions.Version.TheVariants.{Two}
use Rattle.occ_text.specs.Fields.{Tokens, Field, Form, next_token, ◌⊗◌, readers, told_as, by_word, whole}
use Rattle.occ_text.specs.ValueFields.{name, key, end, row, int}
use Rattle.occ_text.specs.declared.versions.Version.{Version}
use Rattle.occ_text.specs.Operations.{Operation, Get, Scan, Put, Delete, Add, operation_parts, OperationFits}

abbrev pub get_form : Version → Form Operation
get_form version = record { word = codes "get"; Told = List ℕ × Key; behind = name ⊗ key version; to = λ p. Get p.0 p.1 }

abbrev pub delete_form : Version → Form Operation
delete_form version = record { word = codes "delete"; Told = List ℕ × Key; behind = name ⊗ key version; to = λ p. Delete p.0 p.1 }

abbrev pub scan_form : Version → Form Operation
scan_form version = record { word = codes "scan"; Told = List ℕ × (Option Key × Option Key); behind = name ⊗ end version ⊗ end version; to = λ p. Scan p.0 p.1.0 p.1.1 }

abbrev pub put_form : Version → Form Operation
put_form version = record { word = codes "put"; Told = List ℕ × (Key × Row); behind = name ⊗ key version ⊗ row; to = λ p. Put p.0 p.1.0 p.1.1 }

abbrev pub add_form : Version → Form Operation
add_form version = record { word = codes "add"; Told = List ℕ × (Key × ℤ); behind = name ⊗ key version ⊗ int; to = λ p. Add p.0 p.1.0 p.1.1 }

abbrev pub forms : Version → List (Form Operation)
forms version = get_form version ∷ put_form version ∷ scan_form version ∷ delete_form version ∷ add_form version ∷ []

-- the forms as the formats are told, with a space for each colon
abbrev pub told_operations : List (List ℕ)
told_operations = map (λ form. line_text (told_as form)) (forms Two)

-- the parts of an operation
abbrev pub operation_field : Version → Field Operation
operation_field version = record {
  read = λ parts. option_and_then (by_word (readers (forms version))) (next_token parts);
  spell = operation_parts;
  fits = OperationFits version;
  letters = codes "OP" ∷ [];
}

unfoldable pub operation_of_parts : Version → Tokens → Option Operation
operation_of_parts version parts = whole (operation_field version) parts

-- the operation of a token
unfoldable pub read_operation : Version → List ℕ → Option Operation
read_operation version token = operation_of_parts version (slice_split (λ byte. byte == 58) token)

-- operations, one for each token
abbrev pub read_operations : Version → List (List ℕ) → Option (List Operation)
read_operations version [] = Some []
read_operations version (token ∷ tokens) = option_and_then (λ operation. option_map (λ operations. operation ∷ operations) (read_operations version tokens)) (read_operation version token)

-- letters for one operation or more
abbrev pub operations_letters : Tokens
operations_letters = (operation_field Two).letters ++ codes ".." ∷ []

-- one operation or more
abbrev pub if_any : List Operation → Option (List Operation)
if_any [] = None
if_any (operation ∷ operations) = Some (operation ∷ operations)

unfoldable pub operations_of : Version → List (List ℕ) → Option (List Operation)
operations_of version tokens = option_and_then if_any (read_operations version tokens)
