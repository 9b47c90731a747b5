use Rattle.std.proofs.Common.{◌≤◌, ◌<◌, length, set, sym, ap, subst, ◌∙◌, arith}
use Rattle.std.specs.List.{insert}
use Rattle.occ_pages.proofs.ReadPages.{read}
use Rattle.occ_pages.proofs.shelf.Shelf.put_at.Goals as goal

pub index_mut-requires : goal.index_mut-requires
index_mut-requires g c = omega (arith, c.args.self.now.pages.ok.0, c.requires.page)

pub insert-requires-clause-there : goal.insert-requires-clause-there
insert-requires-clause-there g c =
    let same = read c.args.self.now.pages.items c.args.page c.index_mut.result.now c.requires.page c.index_mut.ensures.value in
    subst (λ es. c.args.place ≤ length es) (sym same) c.requires.place

pub insert-requires-clause-room : goal.insert-requires-clause-room
insert-requires-clause-room g c =
    let same = read c.args.self.now.pages.items c.args.page c.index_mut.result.now c.requires.page c.index_mut.ensures.value in
    subst (λ es. length es < 64) (sym same) c.requires.room

pub returns-clause-pages : goal.returns-clause-pages
returns-clause-pages g c =
    let same = read c.args.self.now.pages.items c.args.page c.index_mut.result.now c.requires.page c.index_mut.ensures.value in
    ap (set c.args.self.now.pages.items c.args.page) (c.insert.ensures ∙ ap (λ es. insert es c.args.place (c.args.key, c.args.row)) same)
