use Rattle.std.proofs.Common.{◌+◌, ◌≤◌, length, map, sym, ap, subst, ◌∙◌, rules, map-id, arith}
use Rattle.occ_cli.proofs.Common.{length_push, ops_of, operation_of, operations_named}
use Rattle.std.proofs.lemmas.Iterator.Consumers.{YieldsList-end, YieldsList-turn}
use Rattle.std.proofs.lemmas.Iterator.Adapters.{YieldsList-from_vec}
use Rattle.occ_cli.proofs.HandingIn.{named_more}
use Rattle.occ_cli.proofs.operations.named_into.Goals as goal

pub push_reserved-requires : goal.push_reserved-requires
push_reserved-requires g c =
    let kept = c.loop-operation.invariant in
    let turn = YieldsList-turn (YieldsList-from_vec {s = c.into_iter-operation-iterator.result} c.args.operations.items (search rules) (search rules))
    c.loop-operation.yielded c.loop-operation.operation-iterator c.loop-operation.yielded_by c.next.result c.next.new.self c.in-Some.operation c.in-Some.is c.next.ensures.steps in
    let below = turn.0 in
    let len = kept.1 in
    let room = kept.2 in
    omega arith

pub loop-operation-preserved : goal.loop-operation-preserved
loop-operation-preserved g c =
    let kept = c.loop-operation.invariant in (
      ap ops_of c.push_reserved.ensures.items ∙ named_more c.args.schema.now c.loop-operation.yielded c.in-Some.operation c.loop-operation.room.items c.operation_named.result kept.0 c.operation_named.ensures,
      c.push_reserved.ensures.len ∙ ap (λ n. n + 1) kept.1 ∙ sym (length_push c.loop-operation.yielded c.in-Some.operation),
      subst (λ n. length c.args.operations.items ≤ n) (sym c.push_reserved.ensures.capacity) kept.2,
    )

pub returns : goal.returns
returns g c =
    let end = YieldsList-end (YieldsList-from_vec {s = c.into_iter-operation-iterator.result} c.args.operations.items (search rules) (search rules))
    c.loop-operation.yielded c.loop-operation.operation-iterator c.loop-operation.yielded_by c.next.result c.next.new.self c.in-None.is c.next.ensures.steps in
    c.loop-operation.invariant.0 ∙ ap (λ xs. operations_named c.args.schema.now (map operation_of xs)) (sym (map-id c.loop-operation.yielded) ∙ end.0)
