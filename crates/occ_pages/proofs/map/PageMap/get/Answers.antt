use Rattle.std.proofs.Common.{ap, ◌∙◌}
use Rattle.occ_pages.specs.Entries.{get}
use Rattle.occ_pages.proofs.map.PageMap.get.Goals as goal

pub returns : goal.returns
returns g c = c.get.ensures ∙ ap (λ es. get es c.args.key) c.self.view_is
