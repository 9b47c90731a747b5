use Rattle.std.proofs.Common.{◌∙◌, Some, None}
use Rattle.occ_book.proofs.Common.{key_of}
use Rattle.occ_sets.proofs.LookUps.{table-at}
use Rattle.occ_book.proofs.Views.{row-found}
use Rattle.occ_book.proofs.tables.Tables.row.Goals as goal

pub returns-in-Some : goal.returns-in-Some
returns-in-Some g c =
    c.get-in-Some.ensures
    ∙ row-found c.self.inside.tables.items c.args.table (key_of c.args.key.now) c.args.self.now (Some c.in-Some.rows.now) c.self.view_is (table-at _ _ _ _ _ c.deref.ensures.value c.get.ensures.lookup c.in-Some.is)

pub returns-in-None : goal.returns-in-None
returns-in-None g c = row-found c.self.inside.tables.items c.args.table (key_of c.args.key.now) c.args.self.now None c.self.view_is (table-at _ _ _ _ _ c.deref.ensures.value c.get.ensures.lookup c.in-None.is)
