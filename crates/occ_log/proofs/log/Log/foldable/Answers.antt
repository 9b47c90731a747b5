use Rattle.std.proofs.Common.{ap, ◌∙◌, length}
use Rattle.occ_log.proofs.Common.{foldable_part}
use Rattle.occ_log.proofs.Folding.{foldable_rows}
use Rattle.occ_log.proofs.log.Log.foldable.Goals as goal

pub returns : goal.returns
returns g c = c.count_foldable.ensures ∙ foldable_rows c.args.low c.self.inside.rows.items ∙ ap (λ k. length (foldable_part c.args.low k.rows)) c.self.view_is
