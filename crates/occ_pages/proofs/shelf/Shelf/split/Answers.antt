use Rattle.std.proofs.Common.{[], add-one, length, take, drop, get_or, set, ap, subst, ◌∙◌, arith}
use Rattle.std.specs.List.{insert}
use Rattle.std.proofs.lemmas.List.{length-drop, length-set}
use Rattle.occ_pages.specs.Pages.{BeginsAt}
use Rattle.occ_pages.proofs.Shelves.{same-shelf, under-long}
use Rattle.occ_pages.proofs.Cuts.{cut-shelf}
use Rattle.occ_pages.proofs.shelf.Shelf.split.Goals as goal

pub returns-in_err-upper-clause-shelf : goal.returns-in_err-upper-clause-shelf
returns-in_err-upper-clause-shelf g c = same-shelf _ _ _ _ c.room.ensures.firsts c.room.ensures.pages c.requires.shelf

pub halve-requires : goal.halve-requires
halve-requires g c = record {
  page = omega (arith, ap length c.room.ensures.pages, c.requires.there);
  full = ap (λ ps. length (get_or ps c.args.page [])) c.room.ensures.pages ∙ c.requires.full;
  empty = c.in_ok-upper.ensures.page;
}

pub first-requires : goal.first-requires
first-requires g c =
    let old = get_or c.args.self.now.pages.items c.args.page [] in
    let is = c.halve.ensures.upper ∙ ap (λ ps. drop 32 (get_or ps c.args.page [])) c.room.ensures.pages in
    omega (arith, ap length is ∙ length-drop 32 old, c.requires.full)

pub insert_within-requires : goal.insert_within-requires
insert_within-requires g c =
    let now = c.halve.new.self.firsts in
    let was = c.room.new.firsts in
    let same = ap length c.halve.ensures.firsts in
    let before = ap length c.room.ensures.firsts in
    let long = under-long _ _ c.requires.shelf.under in
    record {
      there = omega (arith, now.ok.0, same, before, long, c.requires.there);
      room = omega (arith, now.ok.0, was.ok.0, same, c.halve.ensures.firsts_room, c.in_ok-upper.ensures.firsts_room);
    }

pub insert_within-requires-2 : goal.insert_within-requires-2
insert_within-requires-2 g c =
    let now = c.halve.new.self.pages in
    let was = c.room.new.pages in
    let same = ap length c.halve.ensures.pages ∙ length-set c.room.new.pages.items c.args.page _ in
    let before = ap length c.room.ensures.pages in
    record {
      there = omega (arith, now.ok.0, same, before, c.requires.there);
      room = omega (arith, now.ok.0, was.ok.0, same, c.halve.ensures.pages_room, c.in_ok-upper.ensures.pages_room);
    }

pub returns-clause-ok : goal.returns-clause-ok
returns-clause-ok g c =
    let page = c.args.page in
    let lower = c.halve.ensures.pages ∙ ap (λ ps. set ps page (take 32 (get_or ps page []))) c.room.ensures.pages in
    let upper = c.halve.ensures.upper ∙ ap (λ ps. drop 32 (get_or ps page [])) c.room.ensures.pages in
    c.insert_within-2.ensures.items ∙ (λ i. insert (lower i) (add-one page i) (upper i))

pub returns-clause-shelf : goal.returns-clause-shelf
returns-clause-shelf g c =
    let page = c.args.page in
    let pages = c.args.self.now.pages.items in
    let lower = c.halve.ensures.pages ∙ ap (λ ps. set ps page (take 32 (get_or ps page []))) c.room.ensures.pages in
    let upper = c.halve.ensures.upper ∙ ap (λ ps. drop 32 (get_or ps page [])) c.room.ensures.pages in
    let now = c.insert_within-2.ensures.items ∙ (λ i. insert (lower i) (add-one page i) (upper i)) in
    let named = c.insert_within.ensures.items ∙ (λ i. insert ((c.halve.ensures.firsts ∙ c.room.ensures.firsts) i) (add-one page i) c.first.result) in
    same-shelf _ _ _ _ named now (cut-shelf c.first.result c.args.self.now.firsts.items pages page 32 c.requires.shelf c.requires.there (omega arith) (subst (BeginsAt c.first.result) upper c.first.ensures))
