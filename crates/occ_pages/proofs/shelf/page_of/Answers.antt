use Rattle.std.proofs.Common.{arith}
use Rattle.occ_pages.proofs.ReadPages.{page-before}
use Rattle.occ_pages.proofs.shelf.page_of.Goals.{else-below-firsts-via-then-below-firsts+else-firsts-below, else-below-firsts-via-else-below-firsts}
use Rattle.occ_pages.proofs.shelf.page_of.Goals as goal

pub returns : goal.returns
returns c =
    let firsts = c.args.firsts.now in
    let below = c.rank-below.result in
    elim c.else-below-firsts.branch [
      | else-below-firsts-via-then-below-firsts+else-firsts-below w ↦ page-before firsts c.args.key below c.saturating_sub.result c.requires.rises c.requires.some c.rank-below.ensures (λ there same. absurd (omega (arith, same, w.if-firsts-below.false))) c.saturating_sub.ensures
      | else-below-firsts-via-else-below-firsts w ↦ page-before firsts c.args.key below c.saturating_sub.result c.requires.rises c.requires.some c.rank-below.ensures (λ there same. absurd (omega (arith, there, w.if-below-firsts.false))) c.saturating_sub.ensures
    ]
