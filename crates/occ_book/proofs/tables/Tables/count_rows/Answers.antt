use Rattle.std.proofs.Common.{sym, ap, ◌∙◌, option_copied}
use Rattle.occ_book.proofs.Common.{end_of, answer_size}
use Rattle.occ_sets.proofs.LookUps.{table-at}
use Rattle.occ_book.proofs.Views.{answer-found, answer-missing}
use Rattle.occ_book.proofs.tables.Tables.count_rows.Goals as goal

pub returns-in-Some : goal.returns-in-Some
returns-in-Some g c =
    c.count.ensures.count
    ∙ sym (ap answer_size
    (answer-found c.self.inside.tables.items c.args.table c.in-Some.rows.now (end_of (option_copied c.args.lower)) (end_of (option_copied c.args.upper)) c.args.self.now c.self.view_is (table-at _ _ _ _ _ c.deref.ensures.value c.get.ensures.lookup c.in-Some.is) c.count.ensures.ordered))

pub returns-in-None : goal.returns-in-None
returns-in-None g c = sym (ap answer_size
    (answer-missing c.self.inside.tables.items c.args.table (end_of (option_copied c.args.lower)) (end_of (option_copied c.args.upper)) c.args.self.now c.self.view_is (table-at _ _ _ _ _ c.deref.ensures.value c.get.ensures.lookup c.in-None.is)))
