use Rattle.std.proofs.Common.{◌≡◌, ◌-◌, take, drop, sym, ap, ◌∙◌, arith}
use Rattle.occ_pages.proofs.Laws.{within-places}
use Rattle.occ_pages.proofs.page.Page.ends.Goals as goal

pub returns-clause-within : goal.returns-clause-within
returns-clause-within g c =
    let start = c.start-start.result in
    let same : c.max.result - start ≡ c.end.result - start = omega arith in
    ap (λ n. take n (drop start c.args.self.now)) same
    ∙ sym (within-places c.args.lower c.args.upper c.args.self.now start c.end.result c.start-start.ensures.start c.end.ensures.end)
