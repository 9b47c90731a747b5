use Rattle.occ_audit.proofs.Lent.{rows-found}
use Rattle.occ_audit.proofs.replica.Replica.rows.Goals as goal

pub returns : goal.returns
returns g c = rows-found c.self.inside.tables.entries c.args.table c.args.self.now c.get.result c.self.view_is c.get.ensures.value
