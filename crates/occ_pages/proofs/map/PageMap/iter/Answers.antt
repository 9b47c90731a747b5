use Rattle.std.proofs.Common.{◌∙◌}
use Rattle.occ_pages.proofs.RangePages.{within-all}
use Rattle.occ_pages.proofs.map.PageMap.iter.Goals as goal

pub returns : goal.returns
returns g c = c.range.ensures ∙ within-all c.args.self.now
