use Rattle.std.proofs.Common.{Some, [], ap, map, option_copied, arith}
use Rattle.occ_book.proofs.Common.{IfOk-weaker, end_of, seen}
use Rattle.occ_book.specs.Table.{AreAllUpTo}
use Rattle.occ_sets.proofs.LookUps.{table-at}
use Rattle.occ_book.proofs.Views.{answer-found, answer-missing, up_to_answers}
use Rattle.occ_book.proofs.tables.Tables.rows_up_to.Goals as goal

pub returns-in-Some-clause-answered : goal.returns-in-Some-clause-answered
returns-in-Some-clause-answered g c =
    let is = answer-found c.self.inside.tables.items c.args.table c.in-Some.rows.now (end_of (option_copied c.args.lower)) (end_of (option_copied c.args.upper)) c.args.self.now c.self.view_is (table-at _ _ _ _ _ c.deref.ensures.value c.get.ensures.lookup c.in-Some.is) c.rows_up_to.ensures.ordered in
    IfOk-weaker c.rows_up_to.result _ _ (λ found e. up_to_answers c.args.most _ _ found is e) c.rows_up_to.ensures.rows

pub returns-in-None-clause-answered : goal.returns-in-None-clause-answered
returns-in-None-clause-answered g c =
    let is = answer-missing c.self.inside.tables.items c.args.table (end_of (option_copied c.args.lower)) (end_of (option_copied c.args.upper)) c.args.self.now c.self.view_is (table-at _ _ _ _ _ c.deref.ensures.value c.get.ensures.lookup c.in-None.is) in
    let empty : AreAllUpTo c.args.most [] (Some c.new.result) = (omega arith, ap (map seen) c.new.ensures.items) in
    up_to_answers c.args.most [] _ (Some c.new.result) is empty
