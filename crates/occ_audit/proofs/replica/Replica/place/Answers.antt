use Rattle.occ_audit.proofs.Lent.{rows-placed}
use Rattle.occ_audit.proofs.replica.Replica.place.Goals as goal

pub returns : goal.returns
returns g c =
    rows-placed c.self.inside.tables.entries c.insert.new.self.entries c.args.table c.args.rows c.args.self.now c.self.view_is c.in-Ok.ensures.updates.0
