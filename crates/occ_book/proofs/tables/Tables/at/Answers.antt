use Rattle.std.proofs.Common.{ap}
use Rattle.occ_sets.proofs.LookUps.{table-at}
use Rattle.occ_model.specs.Paging.{rows_answered}
use Rattle.occ_book.proofs.Views.{answer-found, answer-missing}
use Rattle.occ_book.proofs.tables.Tables.at.Goals as goal

pub returns : goal.returns
returns g c = λ lower upper.
    ap rows_answered (answer-found c.self.inside.tables.items c.args.table c.in-Some.rows.now lower upper c.args.self.now c.self.view_is (table-at _ _ _ _ _ c.deref.ensures.value c.get.ensures.lookup c.in-Some.is) c.len-rows.ensures.ordered)

pub returns-in_default : goal.returns-in_default
returns-in_default g c = λ lower upper.
    ap rows_answered (answer-missing c.self.inside.tables.items c.args.table lower upper c.args.self.now c.self.view_is (table-at _ _ _ _ _ c.deref.ensures.value c.get.ensures.lookup c.in_default.is))
