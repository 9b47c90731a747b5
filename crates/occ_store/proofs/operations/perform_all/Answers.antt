use Rattle.std.proofs.Common.{Ok, inl, inr, refl, sym, subst}
use Rattle.std.proofs.lemmas.List.{at_drop_all}
use Rattle.std.proofs.lemmas.Result.{err_from_is_err_and}
use Rattle.occ_types.proofs.Walks.{drop_at}
use Rattle.occ_sets.specs.Operations.{op_of, ops_of}
use Rattle.occ_store.specs.Bodies.{PerformsInVain, Performing}
use Rattle.occ_store.proofs.operations.perform_all.Goals as goal

pub loop-operation-init : goal.loop-operation-init
loop-operation-init g c = λ ran after rest. rest

pub loop-operation-preserved : goal.loop-operation-preserved
loop-operation-preserved g c =
    let left = drop_at c.args.operations.now c.loop-operation.operation-index c.operation-item.result c.operation-item.result c.loop-operation-test.true c.operation-item.is in
    λ ran after rest. c.loop-operation.invariant ran after
    (subst (λ list. Performing g.N.Name.named (ops_of list) c.loop-operation.transaction ran after) (sym left) (inr (c.perform.new.transaction, c.in_ok-perform.ensures, rest)))

pub returns-in_err-perform : goal.returns-in_err-perform
returns-in_err-perform g c =
    let left = drop_at c.args.operations.now c.loop-operation.operation-index c.operation-item.result c.operation-item.result c.loop-operation-test.true c.operation-item.is in
    let p = err_from_is_err_and c.from_residual.result c.from_residual.ensures.1 in
    c.loop-operation.invariant c.from_residual.result c.perform.new.transaction
    (subst (λ list. Performing g.N.Name.named (ops_of list) c.loop-operation.transaction c.from_residual.result c.perform.new.transaction) (sym left)
    (inl (p.0, p.1, subst (λ fault. PerformsInVain g.N.Name.named (op_of c.operation-item.result) c.loop-operation.transaction fault c.perform.new.transaction) (sym p.2) c.in_err-perform.ensures)))

pub returns : goal.returns
returns g c =
    c.loop-operation.invariant (Ok tt) c.loop-operation.transaction
    (subst (λ list. Performing g.N.Name.named (ops_of list) c.loop-operation.transaction (Ok tt) c.loop-operation.transaction)
    (sym (at_drop_all (λ list. list) c.args.operations.now c.loop-operation.operation-index c.loop-operation-test.false)) (refl, refl))
