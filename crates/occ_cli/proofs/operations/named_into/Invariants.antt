use Rattle.std.proofs.Common.{◌≡◌, ◌≤◌, length, map, vec_len, vec_capacity}
use Rattle.occ_cli.proofs.Common.{ops_of, operation_of, operations_named}
use Rattle.occ_cli.proofs.operations.named_into.Given as goal

-- the operations so far have their places, and there is room for the others
abbrev pub invariant-loop-operation : goal.invariant-loop-operation
invariant-loop-operation g l =
    (ops_of l.room.items ≡ operations_named l.schema (map operation_of l.yielded)) × (vec_len l.room ≡ length l.yielded) × (length l.fn.operations.items ≤ vec_capacity l.room)
