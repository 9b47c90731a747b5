use Rattle.std.proofs.Common.{Err, ap, ◌∙◌}
use Rattle.occ_cli.proofs.Common.{err_from_is_err_and, ops_of}
use Rattle.occ_cli.proofs.HandingIn.{no_list}
use Rattle.occ_cli.proofs.operations.operations_named.Goals as goal

-- the first operation that doesn't fit is told
pub returns-in_err-check_operations : goal.returns-in_err-check_operations
returns-in_err-check_operations g c =
    let p = err_from_is_err_and c.from_residual-in_err-check_operations.result c.from_residual-in_err-check_operations.ensures.1 in
    no_list c.from_residual-in_err-check_operations.result _ c.args.schema.now (ops_of {Z = g.row.A.Denot} c.as_slice.result.now) _ c.in_err-check_operations.field-0.0 (p.1 ∙ ap Err p.2)
    (ap (ops_of {Z = g.row.A.Denot}) c.as_slice.ensures.value ∙ c.named_into-list.ensures) c.in_err-check_operations.ensures
