use Rattle.std.proofs.Common.{◌≡◌, map}
use Rattle.occ_sets.specs.Operations.{ops_of}
use Rattle.occ_text.specs.Operations.{operation_of}
use Rattle.occ_run.specs.Plans.{operation_named}
use Rattle.occ_run.proofs.named.operations_named.Given as goal

-- the operations so far have their places
abbrev pub invariant-loop-operation : goal.invariant-loop-operation
invariant-loop-operation g l = ops_of l.list.items ≡ map (operation_named l.schema) (map operation_of l.yielded)
