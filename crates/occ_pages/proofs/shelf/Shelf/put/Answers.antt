use Rattle.std.proofs.Common.{[], length, get_or, set, sym, ap, subst, ◌∙◌, arith}
use Rattle.std.specs.List.{insert}
use Rattle.std.proofs.lemmas.List.{length-set, get_or-set_same}
use Rattle.std.proofs.lemmas.List.Edits.{length-insert}
use Rattle.occ_pages.specs.Pages.{flatten, BeginsAt, IsShelf}
use Rattle.occ_pages.proofs.Shelves.{under-long}
use Rattle.occ_pages.proofs.Changes.{put-is, put-shelf, put-long}
use Rattle.occ_pages.proofs.shelf.Shelf.put.Goals as goal

pub note_first-requires-clause-first : goal.note_first-requires-clause-first
note_first-requires-clause-first g c =
    omega (arith, ap length c.put_at.ensures.firsts, under-long _ _ c.requires.shelf.under, c.requires.gap.there)

pub note_first-requires-clause-page : goal.note_first-requires-clause-page
note_first-requires-clause-page g c =
    let pages = c.args.self.now.pages.items in
    let long = ap length c.put_at.ensures.pages ∙ length-set pages c.args.page _ in
    omega (arith, long, c.requires.gap.there)

pub note_first-requires-clause-some : goal.note_first-requires-clause-some
note_first-requires-clause-some g c =
    let pages = c.args.self.now.pages.items in
    let entries = get_or pages c.args.page [] in
    let new = insert entries c.args.place (c.args.key, c.args.row) in
    let is = ap (λ ps. get_or ps c.args.page []) c.put_at.ensures.pages ∙ get_or-set_same pages c.args.page new [] c.requires.gap.there in
    let long = ap length is ∙ length-insert entries c.args.place (c.args.key, c.args.row) c.requires.gap.inside in
    omega (arith, long)

pub returns-clause-new : goal.returns-clause-new
returns-clause-new g c =
    ap flatten (c.note_first.ensures.pages ∙ c.put_at.ensures.pages) ∙ put-is c.args.key c.args.row c.args.self.now.pages.items c.args.page c.args.place c.requires.gap

pub returns-clause-count : goal.returns-clause-count
returns-clause-count g c =
    ap (λ pages. length (flatten pages)) (c.note_first.ensures.pages ∙ c.put_at.ensures.pages) ∙ put-long c.args.key c.args.row c.args.self.now.pages.items c.args.page c.args.place c.requires.gap

pub returns-clause-shelf : goal.returns-clause-shelf
returns-clause-shelf g c =
    let pages = c.args.self.now.pages.items in
    let firsts = c.args.self.now.firsts.items in
    let page = c.args.page in
    let new = insert (get_or pages page []) c.args.place (c.args.key, c.args.row) in
    let is = ap (λ ps. get_or ps page []) c.put_at.ensures.pages ∙ get_or-set_same pages page new [] c.requires.gap.there in
    let first = c.note_first.ensures.firsts in
    let begins = subst (BeginsAt first.0) is first.1 in
    let named = first.2 ∙ ap (λ ks. set ks page first.0) c.put_at.ensures.firsts in
    subst (λ ks. IsShelf ks c.note_first.new.self.pages.items) (sym named)
    (subst (λ ps. IsShelf (set firsts page first.0) ps) (sym (c.note_first.ensures.pages ∙ c.put_at.ensures.pages))
    (put-shelf c.args.key c.args.row first.0 firsts pages page c.args.place c.requires.shelf c.requires.gap begins))
