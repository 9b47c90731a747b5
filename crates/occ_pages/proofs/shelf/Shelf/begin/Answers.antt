use Rattle.std.proofs.Common.{◌∷◌, ◌++◌, [], length, ap, ◌∙◌, arith}
use Rattle.std.specs.List.{insert}
use Rattle.occ_pages.specs.Pages.{flatten}
use Rattle.occ_pages.proofs.Shelves.{same-shelf}
use Rattle.occ_pages.proofs.Cuts.{begun-is, begun-shelf, begun-long}
use Rattle.occ_pages.proofs.shelf.Shelf.begin.Goals as goal

pub insert-requires-clause-room : goal.insert-requires-clause-room
insert-requires-clause-room g c = omega (arith, ap length c.in-Ok.ensures.page)

pub returns-in-Err-clause-err : goal.returns-in-Err-clause-err
returns-in-Err-clause-err g c = ap flatten c.room.ensures.pages

pub returns-in-Err-clause-shelf : goal.returns-in-Err-clause-shelf
returns-in-Err-clause-shelf g c = same-shelf _ _ _ _ c.room.ensures.firsts c.room.ensures.pages c.requires.shelf

pub returns-clause-new : goal.returns-clause-new
returns-clause-new g c =
    let page = c.insert.ensures ∙ ap (λ es. insert es 0 (c.args.key, c.args.row)) c.in-Ok.ensures.page in
    let pages = c.push_reserved-2.ensures.items ∙ (λ i. c.room.ensures.pages i ++ page i ∷ []) in
    ap flatten pages ∙ begun-is c.args.key c.args.row c.args.self.now.pages.items c.requires.last

pub returns-clause-count : goal.returns-clause-count
returns-clause-count g c =
    let page = c.insert.ensures ∙ ap (λ es. insert es 0 (c.args.key, c.args.row)) c.in-Ok.ensures.page in
    let pages = c.push_reserved-2.ensures.items ∙ (λ i. c.room.ensures.pages i ++ page i ∷ []) in
    ap (λ ps. length (flatten ps)) pages ∙ begun-long c.args.key c.args.row c.args.self.now.pages.items

pub returns-clause-shelf : goal.returns-clause-shelf
returns-clause-shelf g c =
    let page = c.insert.ensures ∙ ap (λ es. insert es 0 (c.args.key, c.args.row)) c.in-Ok.ensures.page in
    let pages = c.push_reserved-2.ensures.items ∙ (λ i. c.room.ensures.pages i ++ page i ∷ []) in
    let firsts = c.push_reserved.ensures.items ∙ ap (λ ks. ks ++ c.args.key ∷ []) c.room.ensures.firsts in
    same-shelf _ _ _ _ firsts pages (begun-shelf c.args.key c.args.row c.args.self.now.firsts.items c.args.self.now.pages.items c.requires.shelf c.requires.last)
