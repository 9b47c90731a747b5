use Rattle.std.proofs.Common.{Err, sym, ap, ◌∙◌, rules, map-id, map}
use Rattle.occ_cli.proofs.Common.{result_err, err_from_is_err_and, check_operations, operation_of, operations_named}
use Rattle.std.proofs.lemmas.Iterator.Consumers.{YieldsList-end}
use Rattle.std.proofs.lemmas.Iterator.Adapters.{YieldsList-from_vec}
use Rattle.occ_cli.proofs.HandingIn.{fits_more, unfit_so}
use Rattle.occ_cli.proofs.operations.check_named.Goals as goal

pub loop-operation-preserved : goal.loop-operation-preserved
loop-operation-preserved g c = fits_more c.args.schema.now c.loop-operation.yielded c.in-Some.operation c.loop-operation.invariant (sym c.in_ok-check_one.ensures)

pub returns-in_err-check_one : goal.returns-in_err-check_one
returns-in_err-check_one g c =
    let p = err_from_is_err_and c.from_residual.result c.from_residual.ensures.1 in
    ap result_err (p.1 ∙ ap Err p.2) ∙ sym (unfit_so c.args.schema.now c.loop-operation.yielded c.in-Some.operation c.into_iter-operation-iterator.result c.loop-operation.operation-iterator c.next.new.self c.in_err-check_one.field-0.0 c.args.operations.items
    (search rules) c.loop-operation.yielded_by c.in-Some.ensures.steps c.loop-operation.invariant (sym c.in_err-check_one.ensures))

pub returns : goal.returns
returns g c =
    let end = YieldsList-end (YieldsList-from_vec {s = c.into_iter-operation-iterator.result} c.args.operations.items (search rules) (search rules))
    c.loop-operation.yielded c.loop-operation.operation-iterator c.loop-operation.yielded_by c.next.result c.next.new.self c.in-None.is c.next.ensures.steps in
    sym c.loop-operation.invariant ∙ ap (λ xs. check_operations c.args.schema.now (operations_named c.args.schema.now (map operation_of xs))) (sym (map-id c.loop-operation.yielded) ∙ end.0)
