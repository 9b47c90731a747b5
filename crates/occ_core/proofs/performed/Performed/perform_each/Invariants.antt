use Rattle.std.proofs.Common.{◌≡◌, drop}
use Rattle.occ_model.specs.Operations.{perform_all}
use Rattle.occ_sets.specs.Operations.{ops_of}
use Rattle.occ_core.specs.Performed.{progress_of}
use Rattle.occ_core.proofs.performed.Performed.perform_each.Given as goal

-- what is done so far, with the operations that are left, is what all operations do
abbrev pub invariant-loop-operation : goal.invariant-loop-operation
invariant-loop-operation g l =
    perform_all l.tables.state (ops_of (drop l.operation-index l.operations)) (progress_of l.self) ≡ perform_all l.tables.state (ops_of l.operations) (progress_of l.fn.self)
