use Rattle.std.proofs.Common.{arith}
use Rattle.occ_audit.proofs.Tables.{filled-none, filled-more, filled-all}
use Rattle.occ_audit.proofs.replica.Replica.of.Goals as goal

pub loop-table-init : goal.loop-table-init
loop-table-init g c = filled-none c.args.tables.now.state c.new-replica.result c.new-replica.ensures

pub loop-table-preserved : goal.loop-table-preserved
loop-table-preserved g c =
    filled-more c.loop-table.table c.args.tables.now.state c.loop-table.replica c.take_table.new.self c.loop-table.invariant c.in_ok-take_table.ensures

pub returns : goal.returns
returns g c =
    filled-all c.loop-table.table c.args.tables.now.tables c.args.tables.now.state c.loop-table.replica (omega (arith, c.loop-table-test.false, c.count-table-end.ensures.value)) c.count-table-end.ensures.no_more c.loop-table.invariant
