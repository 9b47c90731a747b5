use Rattle.std.proofs.Common.{◌<◌, length, sym, ap, subst, arith}
use Rattle.occ_pages.specs.Entries.{Ascends}
use Rattle.occ_pages.specs.Pages.{Rises, IsPageFor}
use Rattle.occ_pages.proofs.Shelves.{under-long, firsts-rise, page-ascends}
use Rattle.occ_pages.proofs.ReadPages.{read, sought}
use Rattle.occ_pages.proofs.shelf.Shelf.seek.Goals as goal

pub page_of-page-requires-clause-rises : goal.page_of-page-requires-clause-rises
page_of-page-requires-clause-rises g c =
    subst Rises (sym c.deref.ensures.value) (firsts-rise _ _ c.requires.shelf.under c.requires.shelf.ascends)

pub page_of-page-requires-clause-some : goal.page_of-page-requires-clause-some
page_of-page-requires-clause-some g c =
    omega (arith, ap length c.deref.ensures.value, under-long _ _ c.requires.shelf.under, c.requires.some)

pub index-requires : goal.index-requires
index-requires g c =
    let for = subst (λ firsts. IsPageFor firsts c.args.key c.page_of-page.result) c.deref.ensures.value c.page_of-page.ensures in
    let long = under-long _ _ c.requires.shelf.under in
    omega (arith, for.there, long, c.args.self.now.pages.ok.0)

pub place-requires : goal.place-requires
place-requires g c =
    let pages = c.args.self.now.pages.items in
    let for = subst (λ firsts. IsPageFor firsts c.args.key c.page_of-page.result) c.deref.ensures.value c.page_of-page.ensures in
    let there : c.page_of-page.result < length pages = omega (arith, for.there, under-long _ _ c.requires.shelf.under) in
    subst Ascends (sym (read pages c.page_of-page.result c.index.result.now there c.index.ensures)) (page-ascends pages c.page_of-page.result c.requires.shelf.ascends)

pub returns : goal.returns
returns g c =
    let for = subst (λ firsts. IsPageFor firsts c.args.key c.page_of-page.result) c.deref.ensures.value c.page_of-page.ensures in
    sought c.args.key c.args.self.now.firsts.items c.args.self.now.pages.items c.page_of-page.result c.place.result c.index.result.now c.requires.shelf for c.index.ensures c.place.ensures.there c.place.ensures.split
