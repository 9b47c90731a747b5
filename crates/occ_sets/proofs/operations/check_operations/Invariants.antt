use Rattle.std.proofs.Common.{◌≡◌, drop}
use Rattle.occ_model.specs.Refusal.{check_operations}
use Rattle.occ_sets.specs.Operations.{ops_of}
use Rattle.occ_sets.proofs.operations.check_operations.Given as goal

-- the operations that are left have the first fault
abbrev pub invariant-loop-operation : goal.invariant-loop-operation
invariant-loop-operation g l = check_operations l.schema (ops_of (drop l.operation-index l.operations)) ≡ check_operations l.schema (ops_of l.operations)
