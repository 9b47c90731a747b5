use Rattle.std.proofs.Common.{sym, ap, ◌∙◌, map, option_copied}
use Rattle.occ_book.proofs.Common.{IfOk-weaker, end_of, Rows, seen}
use Rattle.occ_sets.proofs.LookUps.{table-at}
use Rattle.occ_book.proofs.Views.{answer-found, answer-missing}
use Rattle.occ_book.proofs.tables.Tables.rows.Goals as goal

pub returns-in-Some-clause-answered : goal.returns-in-Some-clause-answered
returns-in-Some-clause-answered g c =
    let is = answer-found c.self.inside.tables.items c.args.table c.in-Some.rows.now (end_of (option_copied c.args.lower)) (end_of (option_copied c.args.upper)) c.args.self.now c.self.view_is (table-at _ _ _ _ _ c.deref.ensures.value c.get.ensures.lookup c.in-Some.is) c.rows.ensures.ordered in
    IfOk-weaker c.rows.result _ _ (λ rows e. ap Rows e ∙ sym is) c.rows.ensures.rows

pub returns-in-None-clause-answered : goal.returns-in-None-clause-answered
returns-in-None-clause-answered g c =
    ap (λ es. Rows (map seen es)) c.new.ensures.items
    ∙ sym (answer-missing c.self.inside.tables.items c.args.table (end_of (option_copied c.args.lower)) (end_of (option_copied c.args.upper)) c.args.self.now c.self.view_is (table-at _ _ _ _ _ c.deref.ensures.value c.get.ensures.lookup c.in-None.is))
