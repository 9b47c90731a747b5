use Rattle.occ_audit.proofs.OrderedRows.{ordered-none, row-in, row-out, rows-all}
use Rattle.occ_audit.proofs.disorders.count_rows.Goals as goal

pub loop-index-init : goal.loop-index-init
loop-index-init g c = ordered-none c.args.base.now.base c.new-last.result c.new-last.ensures.empty

pub returns-in-Some : goal.returns-in-Some
returns-in-Some g c =
    row-out c.args.base.now.base c.args.log.now c.loop-index.index c.index-log-index.result c.loop-index-test.true c.index-log-index.is c.loop-index.invariant.0 c.loop-index.last c.loop-index.invariant.1 c.in-Some.disorder c.in-Some.ensures

pub loop-index-preserved : goal.loop-index-preserved
loop-index-preserved g c =
    row-in c.args.base.now.base c.args.log.now c.loop-index.index c.index-log-index.result c.loop-index-test.true c.index-log-index.is c.loop-index.invariant.0 c.loop-index.last c.insert.new.self c.loop-index.invariant.1 c.in_default.ensures c.in_ok-insert.ensures.updates.0

pub returns : goal.returns
returns g c = rows-all c.args.base.now.base c.args.log.now c.loop-index.index c.loop-index.last c.loop-index-test.false c.loop-index.invariant
