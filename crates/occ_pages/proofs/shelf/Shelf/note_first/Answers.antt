use Rattle.std.proofs.Common.{◌<◌, length, refl, sym, subst, arith}
use Rattle.occ_pages.specs.Pages.{BeginsAt}
use Rattle.occ_pages.proofs.ReadPages.{read}
use Rattle.occ_pages.proofs.shelf.Shelf.note_first.Goals as goal

pub index-requires : goal.index-requires
index-requires g c = omega (arith, c.args.self.now.pages.ok.0, c.requires.page)

pub first-requires : goal.first-requires
first-requires g c =
    let same = read c.args.self.now.pages.items c.args.page c.index.result.now c.requires.page c.index.ensures in
    subst (λ es. 0 < length es) (sym same) c.requires.some

pub index_mut-requires : goal.index_mut-requires
index_mut-requires g c = omega (arith, c.args.self.now.firsts.ok.0, c.requires.first)

pub returns-clause-firsts : goal.returns-clause-firsts
returns-clause-firsts g c =
    let same = read c.args.self.now.pages.items c.args.page c.index.result.now c.requires.page c.index.ensures in
    (c.first.result, subst (BeginsAt c.first.result) same c.first.ensures, refl)
