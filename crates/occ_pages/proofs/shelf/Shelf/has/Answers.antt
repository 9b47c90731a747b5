use Rattle.std.proofs.Common.{drop, ap, ◌∙◌, arith}
use Rattle.occ_pages.specs.Pages.{begins_with}
use Rattle.occ_pages.proofs.ReadPages.{read}
use Rattle.occ_pages.proofs.shelf.Shelf.has.Goals as goal

pub index-requires : goal.index-requires
index-requires g c = omega (arith, c.args.self.now.pages.ok.0, c.requires)

pub returns : goal.returns
returns g c =
    c.has.ensures ∙ ap (λ es. begins_with c.args.key (drop c.args.place es)) (read c.args.self.now.pages.items c.args.page c.index.result.now c.requires c.index.ensures)
