use Rattle.std.proofs.Common.{◌∙◌}
use Rattle.occ_reading.proofs.Common.{object_of}
use Rattle.occ_reading.proofs.RowTaking.{set-absent, not_some}
use Rattle.occ_reading.proofs.transactions.add_write.Goals as goal

pub returns-in-Ok-clause-ok : goal.returns-in-Ok-clause-ok
returns-in-Ok-clause-ok g c =
    c.in-Ok.ensures.ok ∙ set-absent c.args.writes.now (object_of c.args.object) c.args.row (not_some _ _ c.writes.ensures c.if-writes.false)
