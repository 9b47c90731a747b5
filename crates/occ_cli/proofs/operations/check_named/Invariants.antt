use Rattle.std.proofs.Common.{◌≡◌, None, map}
use Rattle.occ_cli.proofs.Common.{check_operations, operation_of, operations_named}
use Rattle.occ_cli.proofs.operations.check_named.Given as goal

-- the operations so far fit
abbrev pub invariant-loop-operation : goal.invariant-loop-operation
invariant-loop-operation g l = check_operations l.schema (operations_named l.schema (map operation_of l.yielded)) ≡ None
