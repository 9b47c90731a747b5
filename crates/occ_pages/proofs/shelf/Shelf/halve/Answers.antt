use Rattle.std.proofs.Common.{length, take, drop, set, ap, ◌∙◌, arith}
use Rattle.occ_pages.proofs.ReadPages.{read}
use Rattle.occ_pages.proofs.shelf.Shelf.halve.Goals as goal

pub index_mut-requires : goal.index_mut-requires
index_mut-requires g c = omega (arith, c.args.self.now.pages.ok.0, c.requires.page)

pub split-requires-clause-full : goal.split-requires-clause-full
split-requires-clause-full g c =
    let same = read c.args.self.now.pages.items c.args.page c.index_mut.result.now c.requires.page c.index_mut.ensures.value in
    ap length same ∙ c.requires.full

pub returns-clause-pages : goal.returns-clause-pages
returns-clause-pages g c =
    let same = read c.args.self.now.pages.items c.args.page c.index_mut.result.now c.requires.page c.index_mut.ensures.value in
    ap (set c.args.self.now.pages.items c.args.page) (c.split.ensures.lower ∙ ap (take 32) same)

pub returns-clause-upper : goal.returns-clause-upper
returns-clause-upper g c =
    let same = read c.args.self.now.pages.items c.args.page c.index_mut.result.now c.requires.page c.index_mut.ensures.value in
    c.split.ensures.upper ∙ ap (drop 32) same
