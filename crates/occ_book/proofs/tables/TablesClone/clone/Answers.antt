use Rattle.std.proofs.Common.{◌∙◌}
use Rattle.occ_book.proofs.Copies.{content-cloned}
use Rattle.occ_book.proofs.tables.TablesClone.clone.Goals as goal

pub returns : goal.returns
returns g c = record { cases = content-cloned c.self.inside.tables.items c.in_ok-clone.field-0.items c.in_ok-clone.ensures.cases.0 ∙ c.self.view_is }
