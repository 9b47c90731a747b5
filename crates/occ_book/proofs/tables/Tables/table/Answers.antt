use Rattle.std.proofs.Common.{sym, ap, ◌∙◌, None}
use Rattle.occ_book.proofs.Common.{Rows}
use Rattle.occ_sets.proofs.LookUps.{table-at}
use Rattle.occ_book.proofs.Views.{answer-found, all-within}
use Rattle.occ_book.proofs.tables.Tables.table.Goals as goal

pub returns-in-Some : goal.returns-in-Some
returns-in-Some g c =
    ap Rows (c.iter.ensures.rows ∙ sym (all-within c.in-Some.rows.now))
    ∙ sym (answer-found c.self.inside.tables.items c.args.table c.in-Some.rows.now None None c.args.self.now c.self.view_is (table-at _ _ _ _ _ c.deref.ensures.value c.get.ensures.lookup c.in-Some.is) c.iter.ensures.ordered)
