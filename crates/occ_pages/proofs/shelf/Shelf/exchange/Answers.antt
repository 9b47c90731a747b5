use Rattle.std.proofs.Common.{◌≡◌, ◌<◌, true, drop, length, set, sym, ap, subst, ◌∙◌, arith}
use Rattle.occ_pages.specs.Page.{StandsAt}
use Rattle.occ_pages.specs.Pages.{flatten, begins_with, IsShelf}
use Rattle.occ_pages.proofs.ReadPages.{read, begins-inside}
use Rattle.occ_pages.proofs.Changes.{found, exchanged_page, exchanged-is, exchanged-shelf, exchanged-long}
use Rattle.occ_pages.proofs.shelf.Shelf.exchange.Goals as goal

pub index_mut-requires : goal.index_mut-requires
index_mut-requires g c = omega (arith, c.args.self.now.pages.ok.0, c.requires.there.there)

pub exchange-requires : goal.exchange-requires
exchange-requires g c =
    let same = read c.args.self.now.pages.items c.args.page c.index_mut.result.now c.requires.there.there c.index_mut.ensures.value in
    subst (λ es. c.args.place < length es) (sym same) (begins-inside c.args.key _ c.args.place c.requires.has)

pub returns-clause-was : goal.returns-clause-was
returns-clause-was g c =
    let pages = c.args.self.now.pages.items in
    let same = read pages c.args.page c.index_mut.result.now c.requires.there.there c.index_mut.ensures.value in
    let has = subst (λ es. begins_with c.args.key (drop c.args.place es) ≡ true) (sym same) c.requires.has in
    found c.args.key pages c.args.page c.args.place c.exchange.result c.requires.there (subst (λ es. StandsAt es c.args.place c.args.key c.exchange.result) same (c.exchange.ensures.was c.args.key has))

pub returns-clause-new : goal.returns-clause-new
returns-clause-new g c =
    let pages = c.args.self.now.pages.items in
    let same = read pages c.args.page c.index_mut.result.now c.requires.there.there c.index_mut.ensures.value in
    let has = subst (λ es. begins_with c.args.key (drop c.args.place es) ≡ true) (sym same) c.requires.has in
    let stands = subst (λ es. StandsAt es c.args.place c.args.key c.exchange.result) same (c.exchange.ensures.was c.args.key has) in
    let new = c.exchange.ensures.new c.args.key has ∙ ap (λ es. exchanged_page es c.args.place c.args.key c.args.row) same in
    ap (λ es. flatten (set pages c.args.page es)) new ∙ exchanged-is c.args.key pages c.args.page c.args.place c.exchange.result c.args.row c.requires.there stands

pub returns-clause-count : goal.returns-clause-count
returns-clause-count g c =
    let pages = c.args.self.now.pages.items in
    let same = read pages c.args.page c.index_mut.result.now c.requires.there.there c.index_mut.ensures.value in
    let has = subst (λ es. begins_with c.args.key (drop c.args.place es) ≡ true) (sym same) c.requires.has in
    let stands = subst (λ es. StandsAt es c.args.place c.args.key c.exchange.result) same (c.exchange.ensures.was c.args.key has) in
    let new = c.exchange.ensures.new c.args.key has ∙ ap (λ es. exchanged_page es c.args.place c.args.key c.args.row) same in
    ap (λ es. length (flatten (set pages c.args.page es))) new ∙ exchanged-long c.args.key pages c.args.page c.args.place c.exchange.result c.args.row c.requires.there stands

pub returns-clause-shelf : goal.returns-clause-shelf
returns-clause-shelf g c =
    let pages = c.args.self.now.pages.items in
    let firsts = c.args.self.now.firsts.items in
    let same = read pages c.args.page c.index_mut.result.now c.requires.there.there c.index_mut.ensures.value in
    let has = subst (λ es. begins_with c.args.key (drop c.args.place es) ≡ true) (sym same) c.requires.has in
    let stands = subst (λ es. StandsAt es c.args.place c.args.key c.exchange.result) same (c.exchange.ensures.was c.args.key has) in
    let new = c.exchange.ensures.new c.args.key has ∙ ap (λ es. exchanged_page es c.args.place c.args.key c.args.row) same in
    subst (λ es. IsShelf firsts (set pages c.args.page es)) (sym new) (exchanged-shelf c.args.key firsts pages c.args.page c.args.place c.exchange.result c.args.row c.requires.shelf c.requires.there stands)
