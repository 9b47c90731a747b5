use Rattle.std.proofs.Common.{◌+◌, [], length, get_or, set, sym, ap, subst, ◌∙◌, arith}
use Rattle.std.specs.List.{remove}
use Rattle.std.proofs.lemmas.List.{length-set, get_or-set_same, nil_from_length}
use Rattle.occ_pages.specs.Pages.{flatten, BeginsAt, IsShelf}
use Rattle.occ_pages.proofs.Shelves.{under-long}
use Rattle.occ_pages.proofs.ReadPages.{begins-inside}
use Rattle.occ_pages.proofs.Changes.{found, taken-is, taken-long, taken-shelf, gone-is, gone-shelf}
use Rattle.occ_pages.proofs.shelf.Shelf.take.Goals as goal

pub take_at-row-requires-clause-place : goal.take_at-row-requires-clause-place
take_at-row-requires-clause-place g c = begins-inside c.args.key _ c.args.place c.requires.has

pub rows_of-requires : goal.rows_of-requires
rows_of-requires g c = omega (arith, ap length c.take_at-row.ensures.pages ∙ length-set c.args.self.now.pages.items c.args.page _, c.requires.there.there)

pub drop_page-requires-clause-first : goal.drop_page-requires-clause-first
drop_page-requires-clause-first g c = omega (arith, ap length c.take_at-row.ensures.firsts, under-long _ _ c.requires.shelf.under, c.requires.there.there)

pub drop_page-requires-clause-page : goal.drop_page-requires-clause-page
drop_page-requires-clause-page g c = omega (arith, ap length c.take_at-row.ensures.pages ∙ length-set c.args.self.now.pages.items c.args.page _, c.requires.there.there)

pub note_first-requires-clause-first : goal.note_first-requires-clause-first
note_first-requires-clause-first g c = omega (arith, ap length c.take_at-row.ensures.firsts, under-long _ _ c.requires.shelf.under, c.requires.there.there)

pub note_first-requires-clause-page : goal.note_first-requires-clause-page
note_first-requires-clause-page g c = omega (arith, ap length c.take_at-row.ensures.pages ∙ length-set c.args.self.now.pages.items c.args.page _, c.requires.there.there)

pub returns-then-rows_of-eq0-clause-was : goal.returns-then-rows_of-eq0-clause-was
returns-then-rows_of-eq0-clause-was g c = found c.args.key c.args.self.now.pages.items c.args.page c.args.place c.take_at-row.result c.requires.there (c.take_at-row.ensures.was c.args.key c.requires.has)

pub returns-then-rows_of-eq0-clause-new : goal.returns-then-rows_of-eq0-clause-new
returns-then-rows_of-eq0-clause-new g c =
    let pages = c.args.self.now.pages.items in
    let page = c.args.page in
    let left = remove (get_or pages page []) c.args.place in
    let is = ap (λ ps. get_or ps page []) c.take_at-row.ensures.pages ∙ get_or-set_same pages page left [] c.requires.there.there in
    let empty = nil_from_length left (omega (arith, ap length is, c.rows_of.ensures.len)) in
    ap flatten (c.drop_page.ensures.pages ∙ ap (λ ps. remove ps page) c.take_at-row.ensures.pages) ∙ gone-is pages page left c.requires.there.there empty
    ∙ taken-is c.args.key pages page c.args.place c.take_at-row.result c.requires.there (c.take_at-row.ensures.was c.args.key c.requires.has)

pub returns-then-rows_of-eq0-clause-count : goal.returns-then-rows_of-eq0-clause-count
returns-then-rows_of-eq0-clause-count g c =
    let pages = c.args.self.now.pages.items in
    let page = c.args.page in
    let left = remove (get_or pages page []) c.args.place in
    let is = ap (λ ps. get_or ps page []) c.take_at-row.ensures.pages ∙ get_or-set_same pages page left [] c.requires.there.there in
    let empty = nil_from_length left (omega (arith, ap length is, c.rows_of.ensures.len)) in
    ap (λ es. length es + 1) (ap flatten (c.drop_page.ensures.pages ∙ ap (λ ps. remove ps page) c.take_at-row.ensures.pages) ∙ gone-is pages page left c.requires.there.there empty)
    ∙ taken-long pages page c.args.place c.requires.there.there (begins-inside c.args.key _ c.args.place c.requires.has)

pub returns-then-rows_of-eq0-clause-shelf : goal.returns-then-rows_of-eq0-clause-shelf
returns-then-rows_of-eq0-clause-shelf g c =
    let pages = c.args.self.now.pages.items in
    let firsts = c.args.self.now.firsts.items in
    let page = c.args.page in
    let left = remove (get_or pages page []) c.args.place in
    let is = ap (λ ps. get_or ps page []) c.take_at-row.ensures.pages ∙ get_or-set_same pages page left [] c.requires.there.there in
    let empty = nil_from_length left (omega (arith, ap length is, c.rows_of.ensures.len)) in
    subst (λ ks. IsShelf ks c.drop_page.new.self.pages.items) (sym (c.drop_page.ensures.firsts ∙ ap (λ ks. remove ks page) c.take_at-row.ensures.firsts))
    (subst (λ ps. IsShelf (remove firsts page) ps) (sym (c.drop_page.ensures.pages ∙ ap (λ ps. remove ps page) c.take_at-row.ensures.pages))
    (gone-shelf firsts pages page c.args.place c.requires.shelf c.requires.there.there (begins-inside c.args.key _ c.args.place c.requires.has) empty))

pub returns-clause-was : goal.returns-clause-was
returns-clause-was g c = found c.args.key c.args.self.now.pages.items c.args.page c.args.place c.take_at-row.result c.requires.there (c.take_at-row.ensures.was c.args.key c.requires.has)

pub returns-clause-new : goal.returns-clause-new
returns-clause-new g c =
    ap flatten (c.note_first.ensures.pages ∙ c.take_at-row.ensures.pages)
    ∙ taken-is c.args.key c.args.self.now.pages.items c.args.page c.args.place c.take_at-row.result c.requires.there (c.take_at-row.ensures.was c.args.key c.requires.has)

pub returns-clause-count : goal.returns-clause-count
returns-clause-count g c =
    ap (λ ps. length (flatten ps) + 1) (c.note_first.ensures.pages ∙ c.take_at-row.ensures.pages)
    ∙ taken-long c.args.self.now.pages.items c.args.page c.args.place c.requires.there.there (begins-inside c.args.key _ c.args.place c.requires.has)

pub returns-clause-shelf : goal.returns-clause-shelf
returns-clause-shelf g c =
    let pages = c.args.self.now.pages.items in
    let firsts = c.args.self.now.firsts.items in
    let page = c.args.page in
    let left = remove (get_or pages page []) c.args.place in
    let is = ap (λ ps. get_or ps page []) c.take_at-row.ensures.pages ∙ get_or-set_same pages page left [] c.requires.there.there in
    let first = c.note_first.ensures.firsts in
    let begins = subst (BeginsAt first.0) is first.1 in
    let named = first.2 ∙ ap (λ ks. set ks page first.0) c.take_at-row.ensures.firsts in
    subst (λ ks. IsShelf ks c.note_first.new.self.pages.items) (sym named)
    (subst (λ ps. IsShelf (set firsts page first.0) ps) (sym (c.note_first.ensures.pages ∙ c.take_at-row.ensures.pages))
    (taken-shelf first.0 firsts pages page c.args.place c.requires.shelf c.requires.there.there (begins-inside c.args.key _ c.args.place c.requires.has) begins))
