use Rattle.std.proofs.Common.{◌<◌, ◌≤◌, ◌+◌, ◌-◌, [], suc, add-one, length, get_or, sym, ap, subst, ◌∙◌, arith}
use Rattle.std.proofs.lemmas.List.{length-take-le, length-drop}
use Rattle.occ_pages.specs.Entries.{put}
use Rattle.occ_pages.specs.Pages.{flatten, IsGap}
use Rattle.occ_pages.proofs.Cuts.{all-below, cut-is, page-lower, page-upper, gap-lower, gap-upper}
use Rattle.occ_pages.proofs.shelf.Shelf.add.Goals as goal

pub begin-requires-clause-last : goal.begin-requires-clause-last
begin-requires-clause-last g c =
    all-below c.args.key c.args.self.now.pages.items c.args.page c.args.place c.requires.gap (omega (arith, c.args.self.now.pages.ok.0, c.len.ensures, c.if-page-len.true)) (omega (arith, c.rows_of.ensures.few, c.if-place-eq-FULL.true))

pub split-requires-clause-full : goal.split-requires-clause-full
split-requires-clause-full g c = omega (arith, c.rows_of.ensures.len, c.rows_of.ensures.few, c.if-rows_of-lt-FULL.false)

pub put_in_half-requires-clause-lower : goal.put_in_half-requires-clause-lower
put_in_half-requires-clause-lower g c = λ few.
    let pages = c.args.self.now.pages.items in
    let page = c.args.page in
    let long : 32 ≤ length (get_or pages page []) = omega (arith, c.rows_of.ensures.len) in
    let part = ap (λ ps. length (get_or ps page [])) c.in-Ok.ensures.ok ∙ ap length (page-lower pages page 32 c.requires.gap.there) ∙ length-take-le 32 (get_or pages page []) long in
    (subst (λ ps. IsGap c.args.key ps page c.args.place) (sym c.in-Ok.ensures.ok) (gap-lower c.args.key pages page 32 c.args.place c.requires.gap few long), omega (arith, part))

pub put_in_half-requires-clause-upper : goal.put_in_half-requires-clause-upper
put_in_half-requires-clause-upper g c = λ many.
    let pages = c.args.self.now.pages.items in
    let page = c.args.page in
    let few = c.rows_of.ensures.few in
    let part = ap (λ ps. length (get_or ps (suc page) [])) c.in-Ok.ensures.ok ∙ ap length (page-upper pages page 32 c.requires.gap.there) ∙ length-drop 32 (get_or pages page []) in
    let gap = subst (λ ps. IsGap c.args.key ps (suc page) (c.args.place - 32)) (sym c.in-Ok.ensures.ok) (gap-upper c.args.key pages page 32 c.args.place c.requires.gap (omega arith)) in
    subst (λ n. IsGap c.args.key c.split.new.self.pages.items n (c.args.place - 32) × (length (get_or c.split.new.self.pages.items n []) < 64)) (sym (add-one page)) (gap, omega (arith, part, few))

pub returns-clause-new : goal.returns-clause-new
returns-clause-new g c =
    let same = ap flatten c.in-Ok.ensures.ok ∙ cut-is c.args.self.now.pages.items c.args.page 32 c.requires.gap.there in
    c.put_in_half.ensures.new ∙ ap (λ es. put es c.args.key c.args.row) same

pub returns-clause-count : goal.returns-clause-count
returns-clause-count g c =
    let same = ap flatten c.in-Ok.ensures.ok ∙ cut-is c.args.self.now.pages.items c.args.page 32 c.requires.gap.there in
    c.put_in_half.ensures.count ∙ ap (λ es. length es + 1) same
