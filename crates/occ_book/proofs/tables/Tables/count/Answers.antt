use Rattle.occ_book.proofs.tables.Tables.count.Goals as goal
use Rattle.occ_book.proofs.Views.{absent}

pub returns-clause-no_more : goal.returns-clause-no_more
returns-clause-no_more g c = absent c.self.inside.tables.items c.args.self.now c.self.view_is
