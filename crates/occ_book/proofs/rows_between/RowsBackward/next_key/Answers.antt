use Rattle.std.proofs.Common.{sym, ap, ◌∙◌}
use Rattle.occ_book.specs.Table.{last_key}
use Rattle.occ_book.proofs.PageEnds.{other-taken}
use Rattle.occ_book.proofs.rows_between.RowsBackward.next_key.Goals as goal

pub returns-in-Some-clause-key : goal.returns-in-Some-clause-key
returns-in-Some-clause-key g c =
    sym (other-taken c.self.inside.numbers c.self.inside.others c.next_back.new.self (c.in-Some.key.now, c.in-Some._row.now) c.in-Some.ensures.steps).0 ∙ ap last_key c.self.view_is
