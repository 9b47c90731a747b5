use Rattle.std.proofs.Common.{ap, map, sym, ◌∙◌, rules, map-id}
use Rattle.std.proofs.lemmas.Iterator.Consumers.{YieldsList-end}
use Rattle.std.proofs.lemmas.Iterator.Adapters.{YieldsList-from_vec}
use Rattle.occ_sets.specs.Operations.{ops_of}
use Rattle.occ_text.specs.Operations.{operation_of}
use Rattle.occ_run.specs.Plans.{operation_named}
use Rattle.occ_run.proofs.Lists.{named_more}
use Rattle.occ_run.proofs.named.operations_named.Goals as goal

pub loop-operation-preserved : goal.loop-operation-preserved
loop-operation-preserved g c =
    ap ops_of c.in_ok-push.ensures.items ∙ named_more c.args.schema.now c.loop-operation.yielded c.in-Some.operation c.loop-operation.list.items c.operation_named.result c.loop-operation.invariant c.operation_named.ensures

pub returns : goal.returns
returns g c =
    let end = YieldsList-end (YieldsList-from_vec {s = c.into_iter-operation-iterator.result} c.args.operations.items (search rules) (search rules))
    c.loop-operation.yielded c.loop-operation.operation-iterator c.loop-operation.yielded_by c.next.result c.next.new.self c.in-None.is c.next.ensures.steps in
    c.loop-operation.invariant ∙ ap (λ xs. map (operation_named c.args.schema.now) (map operation_of xs)) (sym (map-id c.loop-operation.yielded) ∙ end.0)
