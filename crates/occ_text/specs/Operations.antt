-- The operations of a run alone in a text, as plain data, and the one spelling of each (our own choice).
use Rattle.std.specs.Prelude.{ℕ, ℤ, List, [], ◌∷◌, Option, FitsSigned, codes}
use Rattle.std.specs.Int.{w64}
use Rattle.std.specs.Fmt.{signed_decimal}
use Rattle.std.specs.List.{join_with_byte}
use Rattle.occ_types.specs.Key.{Key}
use Rattle.occ_types.specs.Row.{Row}
use Rattle.occ_types.specs.PlainData.{key_of, end_of}
use Rattle.occ_types.specs.Spelling.{key_text, row_text}
use Rattle.occ_text.specs.Spelling.{end_text, IsName, KeyFits, EndFits, RowFits}
use Rattle.occ_text.specs.declared.versions.Version.{Version}
use Rattle.occ_text.specs.declared.operations.Operation as code_operation
use Rattle.occ_text.specs.declared.operations.Operation.TheVariants as operations

-- the name of a table comes first; a range may lack an end
pub data Operation : Type 0 where
  Get : List ℕ → Key → Operation
  Scan : List ℕ → Option Key → Option Key → Operation
  Put : List ℕ → Key → Row → Operation
  Delete : List ℕ → Key → Operation
  Add : List ℕ → Key → ℤ → Operation

module _ {Z : Type 0} where
  -- the plain operation
  abbrev pub operation_of : code_operation.Operation Z → Operation
  operation_of (operations.Get table key) = Get table.now (key_of key)
  operation_of (operations.Scan table lower upper) = Scan table.now (end_of lower) (end_of upper)
  operation_of (operations.Put table key row) = Put table.now (key_of key) row
  operation_of (operations.Delete table key) = Delete table.now (key_of key)
  operation_of (operations.Add table key amount) = Add table.now (key_of key) amount

-- the parts of an operation
abbrev pub operation_parts : Operation → List (List ℕ)
operation_parts (Get table key) = codes "get" ∷ table ∷ key_text key ∷ []
operation_parts (Scan table lower upper) = codes "scan" ∷ table ∷ end_text lower ∷ end_text upper ∷ []
operation_parts (Put table key row) = codes "put" ∷ table ∷ key_text key ∷ row_text row ∷ []
operation_parts (Delete table key) = codes "delete" ∷ table ∷ key_text key ∷ []
operation_parts (Add table key amount) = codes "add" ∷ table ∷ key_text key ∷ signed_decimal amount ∷ []

-- the token of an operation: its parts, with one colon between two of them
abbrev pub operation_text : Operation → List ℕ
operation_text operation = join_with_byte 58 (operation_parts operation)

-- what has a token: what its parts may spell
abbrev pub OperationFits : Version → Operation → Type 0
OperationFits version (Get table key) = IsName table × KeyFits version key
OperationFits version (Scan table lower upper) = IsName table × EndFits version lower × EndFits version upper
OperationFits version (Put table key row) = IsName table × KeyFits version key × RowFits row
OperationFits version (Delete table key) = IsName table × KeyFits version key
OperationFits version (Add table key amount) = IsName table × KeyFits version key × FitsSigned w64 amount
