use Rattle.std.proofs.Common.{◌∙◌}
use Rattle.occ_book.proofs.Views.{all-within}
use Rattle.occ_audit.proofs.lent_rows.LentRows.iter.Goals as goal

pub returns-clause-rows : goal.returns-clause-rows
returns-clause-rows g c = c.range.ensures.rows ∙ all-within c.args.self.now
