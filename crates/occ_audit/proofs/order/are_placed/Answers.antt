use Rattle.std.proofs.Common.{◌≡◌, suc, ◌+◌, false, true, drop, arith}
use Rattle.occ_audit.proofs.Common.{Counts, clash, log_of, via, along, at_next}
use Rattle.occ_audit.proofs.Orders.{places}
use Rattle.occ_audit.proofs.order.are_placed.Goals as goal

pub returns-then-not-is_placed : goal.returns-then-not-is_placed
returns-then-not-is_placed g c =
    let before = c.loop-before.before in
    let first = c.args.first in
    let here = at_next (λ rows. Counts (first + before) (places (log_of rows))) c.args.log.now before c.index-log-before.result c.loop-before-test.true c.index-log-before.is c.loop-before.invariant in
    (λ (e : false ≡ true). cc, λ placed. clash c.is_placed.result (c.is_placed.ensures.1 (here.0 placed).0) c.if-not-is_placed.true)

pub loop-before-preserved : goal.loop-before-preserved
loop-before-preserved g c =
    let before = c.loop-before.before in
    let first = c.args.first in
    let here = at_next (λ rows. Counts (first + before) (places (log_of rows))) c.args.log.now before c.index-log-before.result c.loop-before-test.true c.index-log-before.is c.loop-before.invariant in
    let next : suc (first + before) ≡ first + (before + 1) = omega arith in
    via here
    (via (λ h. h.1, λ h. (c.is_placed.ensures.0 c.if-not-is_placed.false, h)) (along (λ next. Counts next (places (log_of (drop (before + 1) c.args.log.now)))) (suc (first + before)) (first + (before + 1)) next))
