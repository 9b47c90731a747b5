use Rattle.std.proofs.Common.{◌≡◌, ◌<◌, ◌+◌, length, take, get_or, [], sym, ap, ◌∙◌, arith, length-append}
use Rattle.occ_pages.specs.Entries.{within}
use Rattle.occ_pages.specs.Pages.{flatten}
use Rattle.occ_pages.proofs.RangePages.{one-more-page, all-counted, count-fits}
use Rattle.occ_pages.proofs.shelf.Shelf.count.Goals as goal

pub loop-page-init : goal.loop-page-init
loop-page-init g c = sym (ap length c.pages_between-start.ensures.first)

pub overflow_add-count : goal.overflow_add-count
overflow_add-count g c =
    let pages = c.args.self.now.pages.items in
    let page = c.loop-page.page in
    let there : page < length pages = omega (arith, c.loop-page-test.true, c.pages_between-start.ensures.there) in
    let sum = ap length (one-more-page c.args.lower c.args.upper pages page there) ∙ length-append (within c.args.lower c.args.upper (flatten (take page pages))) (within c.args.lower c.args.upper (get_or pages page [])) in
    let fits = count-fits c.args.lower c.args.upper pages (page + 1) in
    omega (arith, sum, fits, c.requires.few, c.loop-page.invariant, c.count_in-count.ensures)

pub loop-page-preserved : goal.loop-page-preserved
loop-page-preserved g c =
    let pages = c.args.self.now.pages.items in
    let page = c.loop-page.page in
    let there : page < length pages = omega (arith, c.loop-page-test.true, c.pages_between-start.ensures.there) in
    let sum = ap length (one-more-page c.args.lower c.args.upper pages page there) ∙ length-append (within c.args.lower c.args.upper (flatten (take page pages))) (within c.args.lower c.args.upper (get_or pages page [])) in
    (λ i. c.loop-page.invariant i + c.count_in-count.ensures i) ∙ sym sum

pub returns : goal.returns
returns g c =
    let pages = c.args.self.now.pages.items in
    let end : c.loop-page.page ≡ c.pages_between-start.result.1 = omega (arith, c.loop-page-test.false, c.loop-page.auto.page-end, c.pages_between-start.ensures.order) in
    c.loop-page.invariant
    ∙ ap (λ n. length (within c.args.lower c.args.upper (flatten (take n pages)))) end
    ∙ ap length (all-counted c.args.lower c.args.upper pages c.pages_between-start.result.1 c.pages_between-start.ensures.last)
