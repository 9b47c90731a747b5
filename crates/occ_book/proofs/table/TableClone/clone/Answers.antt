use Rattle.std.proofs.Common.{◌∙◌}
use Rattle.occ_book.proofs.TableRanges.{rows-copied}
use Rattle.occ_book.proofs.table.TableClone.clone.Goals as goal

pub returns : goal.returns
returns g c = record {
  cases = rows-copied c.self.inside.numbers c.in_ok-numbers.numbers c.self.inside.others c.in_ok-others.others c.in_ok-numbers.ensures.cases c.in_ok-others.ensures.cases ∙ c.self.view_is;
}
