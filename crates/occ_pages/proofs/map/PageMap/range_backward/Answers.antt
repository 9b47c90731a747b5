use Rattle.std.proofs.Common.{◌-◌, length, take, drop, sym, ap, subst, ◌∙◌, arith}
use Rattle.occ_pages.specs.Entries.{Ascends, within}
use Rattle.occ_pages.specs.Pages.{flatten}
use Rattle.occ_pages.proofs.RangePages.{between-pages, ascends-between}
use Rattle.occ_pages.proofs.map.PageMap.range_backward.Goals as goal

pub between-requires-clause-there : goal.between-requires-clause-there
between-requires-clause-there g c = omega (arith, ap length c.deref.ensures.value, c.pages_between-start.ensures.there)

pub new-requires : goal.new-requires
new-requires g c =
    let start = c.pages_between-start.result.0 in
    let end = c.pages_between-start.result.1 in
    let is = c.between.ensures ∙ ap (λ ps. take (end - start) (drop start ps)) c.deref.ensures.value in
    subst (λ ps. Ascends (flatten ps)) (sym is) (ascends-between c.self.inside.shelf.pages.items start end c.self.invariant.shelf.ascends)

pub returns : goal.returns
returns g c =
    let start = c.pages_between-start.result.0 in
    let end = c.pages_between-start.result.1 in
    let is = c.between.ensures ∙ ap (λ ps. take (end - start) (drop start ps)) c.deref.ensures.value in
    c.new.ensures
    ∙ ap (λ ps. within c.args.lower c.args.upper (flatten ps)) is
    ∙ between-pages c.args.lower c.args.upper c.self.inside.shelf.pages.items start end c.pages_between-start.ensures.order c.pages_between-start.ensures.first c.pages_between-start.ensures.last
    ∙ ap (within c.args.lower c.args.upper) c.self.view_is
