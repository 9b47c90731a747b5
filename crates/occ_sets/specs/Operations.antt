-- What clauses see of the code's operations: the plain operations of the model.
use Rattle.std.specs.Prelude.{◌==◌, not, List, [], ◌∷◌, map, length, Option, None, Some}
use Rattle.occ_types.specs.declared.fault.Fault.{Fault}
use Rattle.occ_types.specs.declared.fault.Fault.TheVariants as faults
use Rattle.occ_types.specs.declared.kind.Kind.{Kind}
use Rattle.occ_types.specs.declared.kind.Kind.TheVariants as cells
use Rattle.occ_types.specs.Schema.{fault_if, first_fault}
use Rattle.occ_types.specs.PlainData.{key_of, end_of}
use Rattle.occ_model.specs.Operations.{Operation, Get, Scan, Put, Delete, Add}
use Rattle.occ_sets.specs.declared.operations.Op as code
use Rattle.occ_sets.specs.declared.operations.Op.TheVariants as ops

module _ {Z : Type 0} where
  -- the plain operation
  abbrev pub op_of : code.Op Z → Operation
  op_of (ops.Get table key) = Get table (key_of key)
  op_of (ops.Scan table lower upper) = Scan table (end_of lower) (end_of upper)
  op_of (ops.Put table key row) = Put table (key_of key) row
  op_of (ops.Delete table key) = Delete table (key_of key)
  op_of (ops.Add table key amount) = Add table (key_of key) amount

  -- the plain operations, in their order
  abbrev pub ops_of : List (code.Op Z) → List Operation
  ops_of = map op_of

-- whether the columns of a table are one of whole numbers
abbrev pub check_columns : List Kind → Option Fault
check_columns columns = first_fault (
    fault_if (not (length columns == 1)) faults.WrongColumns
    ∷ elim columns [ [] ↦ None | kind ∷ kinds ↦ elim kind [ cells.Int ↦ None | cells.Text ↦ Some faults.WrongKind ] ]
    ∷ [])
