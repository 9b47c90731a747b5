use Rattle.std.proofs.Common.{◌≤◌, length, ap, subst, ◌∙◌, arith}
use Rattle.occ_pages.proofs.ReadPages.{read}
use Rattle.occ_pages.proofs.shelf.Shelf.rows_of.Goals as goal

pub index-requires : goal.index-requires
index-requires g c = omega (arith, c.args.self.now.pages.ok.0, c.requires)

pub returns-clause-len : goal.returns-clause-len
returns-clause-len g c = c.len.ensures.len ∙ ap length (read c.args.self.now.pages.items c.args.page c.index.result.now c.requires c.index.ensures)

pub returns-clause-few : goal.returns-clause-few
returns-clause-few g c = subst (λ es. length es ≤ 64) (read c.args.self.now.pages.items c.args.page c.index.result.now c.requires c.index.ensures) c.len.ensures.few
