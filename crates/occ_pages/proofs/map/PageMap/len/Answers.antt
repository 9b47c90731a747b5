use Rattle.std.proofs.Common.{length, ap, subst, ◌∙◌}
use Rattle.occ_pages.specs.Entries.{Ascends}
use Rattle.occ_pages.proofs.map.PageMap.len.Goals as goal

pub returns-clause-len : goal.returns-clause-len
returns-clause-len g c = c.self.invariant.counted ∙ ap length c.self.view_is

pub returns-clause-ascends : goal.returns-clause-ascends
returns-clause-ascends g c = subst Ascends c.self.view_is c.self.invariant.shelf.ascends
