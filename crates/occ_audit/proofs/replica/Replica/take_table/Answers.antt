use Rattle.std.proofs.Common.{arith}
use Rattle.occ_audit.proofs.Common.{on_ok_weaker}
use Rattle.occ_audit.proofs.Tables.{table-taken, answered-sorted}
use Rattle.occ_audit.proofs.replica.Replica.take_table.Goals as goal

pub returns-in_default : goal.returns-in_default
returns-in_default g c = let past = c.in_default.ensures in let within = c.requires in absurd (omega arith)

pub returns : goal.returns
returns g c =
    on_ok_weaker c.place.result (λ placed. table-taken c.args.table c.in_ok-rows.rows c.in-Some.kept c.args.tables.now.state c.args.self.now c.place.new.self placed c.in-Some.ensures c.in_ok-rows.ensures) c.place.ensures

pub of-requires : goal.of-requires
of-requires g c = answered-sorted c.args.tables.now.state c.args.table c.in-Some.kept c.in-Some.ensures
