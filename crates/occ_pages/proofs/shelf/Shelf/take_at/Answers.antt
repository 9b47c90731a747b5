use Rattle.std.proofs.Common.{◌≡◌, ◌<◌, true, length, drop, set, sym, ap, subst, ◌∙◌, arith}
use Rattle.std.specs.List.{remove}
use Rattle.occ_pages.specs.Page.{StandsAt}
use Rattle.occ_pages.specs.Pages.{begins_with}
use Rattle.occ_pages.proofs.ReadPages.{read}
use Rattle.occ_pages.proofs.shelf.Shelf.take_at.Goals as goal

pub index_mut-requires : goal.index_mut-requires
index_mut-requires g c = omega (arith, c.args.self.now.pages.ok.0, c.requires.page)

pub remove-requires : goal.remove-requires
remove-requires g c =
    let same = read c.args.self.now.pages.items c.args.page c.index_mut.result.now c.requires.page c.index_mut.ensures.value in
    subst (λ es. c.args.place < length es) (sym same) c.requires.place

pub returns-clause-was : goal.returns-clause-was
returns-clause-was g c = λ key is.
    let same = read c.args.self.now.pages.items c.args.page c.index_mut.result.now c.requires.page c.index_mut.ensures.value in
    subst (λ es. StandsAt es c.args.place key c.remove.result) same
    (c.remove.ensures.was key (subst (λ es. begins_with key (drop c.args.place es) ≡ true) (sym same) is))

pub returns-clause-pages : goal.returns-clause-pages
returns-clause-pages g c =
    let same = read c.args.self.now.pages.items c.args.page c.index_mut.result.now c.requires.page c.index_mut.ensures.value in
    ap (set c.args.self.now.pages.items c.args.page) (c.remove.ensures.new ∙ ap (λ es. remove es c.args.place) same)
