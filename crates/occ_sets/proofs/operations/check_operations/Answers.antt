use Rattle.std.proofs.Common.{sym, ◌∙◌}
use Rattle.std.proofs.lemmas.Result.{err_from_is_err_and}
use Rattle.occ_sets.proofs.Checks.{check_operations-fit, check_operations-fault}
use Rattle.occ_sets.proofs.operations.check_operations.Goals as goal

-- an operation that does not fit is the answer
pub returns-in_err-check : goal.returns-in_err-check
returns-in_err-check g c =
    let p = err_from_is_err_and c.from_residual.result c.from_residual.ensures.1 in
    let fault = check_operations-fault c.args.schema.now c.args.operations.now c.loop-operation.operation-index c.operation-item.result c.in_err-check.field-0.0 c.loop-operation-test.true c.operation-item.is c.in_err-check.ensures in
    rw (p.1, p.2) (sym fault ∙ c.loop-operation.invariant)

-- an operation that fits leaves the check of the rest
pub loop-operation-preserved : goal.loop-operation-preserved
loop-operation-preserved g c =
    check_operations-fit c.args.schema.now c.args.operations.now c.loop-operation.operation-index c.operation-item.result c.loop-operation-test.true c.operation-item.is c.in_ok-check.ensures ∙ c.loop-operation.invariant
