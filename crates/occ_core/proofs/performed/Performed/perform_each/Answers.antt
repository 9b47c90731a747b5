use Rattle.std.proofs.Common.{◌≤◌, length, ◌∙◌, arith}
use Rattle.occ_core.specs.Performed.{progress_of}
use Rattle.occ_core.proofs.Performing.{perform_more, performed_all}
use Rattle.occ_core.proofs.performed.Performed.perform_each.Goals as goal

-- one operation more is done
pub loop-operation-preserved : goal.loop-operation-preserved
loop-operation-preserved g c =
    perform_more c.args.tables.now.state c.args.operations.now c.loop-operation.operation-index c.operation-item.result (progress_of c.loop-operation.self) (progress_of c.perform.new.self)
    c.loop-operation-test.true c.operation-item.is c.in_ok-perform.ensures.performed ∙ c.loop-operation.invariant

-- none is left
pub returns-clause-performed : goal.returns-clause-performed
returns-clause-performed g c =
    let end : length c.args.operations.now ≤ c.loop-operation.operation-index = omega arith in
    performed_all c.args.tables.now.state c.args.operations.now c.loop-operation.operation-index (progress_of c.loop-operation.self) _ end c.loop-operation.invariant
