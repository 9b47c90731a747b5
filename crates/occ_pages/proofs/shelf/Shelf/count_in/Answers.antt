use Rattle.std.proofs.Common.{◌-◌, length, drop, sym, ap, subst, ◌∙◌, arith}
use Rattle.std.proofs.lemmas.List.{length-take-le, length-drop}
use Rattle.occ_pages.specs.Entries.{Ascends, within}
use Rattle.occ_pages.proofs.Shelves.{page-ascends}
use Rattle.occ_pages.proofs.ReadPages.{read}
use Rattle.occ_pages.proofs.shelf.Shelf.count_in.Goals as goal

pub index-requires : goal.index-requires
index-requires g c = omega (arith, c.args.self.now.pages.ok.0, c.requires.page)

pub ends-start-requires : goal.ends-start-requires
ends-start-requires g c =
    let pages = c.args.self.now.pages.items in
    subst Ascends (sym (read pages c.args.page c.index.result.now c.requires.page c.index.ensures)) (page-ascends pages c.args.page c.requires.shelf.ascends)

pub returns : goal.returns
returns g c =
    let es = c.index.result.now in
    let start = c.ends-start.result.0 in
    let end = c.ends-start.result.1 in
    let long = length-take-le (end - start) (drop start es) (omega (arith, length-drop start es, c.ends-start.ensures.there)) in
    sym long ∙ ap length c.ends-start.ensures.within ∙ ap (λ fs. length (within c.args.lower c.args.upper fs)) (read c.args.self.now.pages.items c.args.page es c.requires.page c.index.ensures)
