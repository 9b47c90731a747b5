use Rattle.std.proofs.Common.{length, ap, ◌∙◌, arith}
use Rattle.occ_pages.specs.Entries.{within}
use Rattle.occ_pages.proofs.map.PageMap.count.Goals as goal

pub count-requires : goal.count-requires
count-requires g c = record { shelf = c.self.invariant.shelf; few = omega (arith, ap length c.self.view_is, c.len-rows.ensures.len, c.len-rows.type_inv) }

pub returns : goal.returns
returns g c = c.count.ensures ∙ ap (λ es. length (within c.args.lower c.args.upper es)) c.self.view_is
