use Rattle.std.proofs.Common.{drop, suc, unwrap_or, sym, ap, ◌∙◌}
use Rattle.occ_audit.proofs.Common.{at_drop_all, clash, last_folded, log_of}
use Rattle.occ_audit.proofs.Orders.{counted-none, counted-all, rows-counted, rows-uncounted}
use Rattle.occ_audit.proofs.order.last_numbers.Goals as goal

pub loop-row-init : goal.loop-row-init
loop-row-init g c = counted-none c.args.base.now.base (log_of c.args.log.now) c.new-last.result c.new-last.ensures.empty

pub returns-then-not-is_next : goal.returns-then-not-is_next
returns-then-not-is_next g c =
    let folded = last_folded c.args.base.now.base c.row-item.result.session in
    rows-uncounted c.args.base.now.base (log_of c.args.log.now) c.args.log.now c.loop-row.row-index c.row-item.result c.loop-row.last c.loop-row-test.true c.row-item.is c.loop-row.invariant
    (λ e. clash c.is_next.result (c.is_next.ensures.1 (e ∙ ap (λ kept. suc (unwrap_or kept folded)) (sym c.in_ok-before.ensures.old))) c.if-not-is_next.true)

pub loop-row-preserved : goal.loop-row-preserved
loop-row-preserved g c =
    let folded = last_folded c.args.base.now.base c.row-item.result.session in
    rows-counted c.args.base.now.base (log_of c.args.log.now) c.args.log.now c.loop-row.row-index c.row-item.result c.loop-row.last c.loop-row-test.true c.row-item.is c.loop-row.invariant c.insert.new.self
    (c.is_next.ensures.0 c.if-not-is_next.false ∙ ap (λ kept. suc (unwrap_or kept folded)) c.in_ok-before.ensures.old) c.in_ok-before.ensures.updates.0

pub returns : goal.returns
returns g c =
    counted-all c.args.base.now.base (log_of c.args.log.now) (log_of (drop c.loop-row.row-index c.args.log.now)) c.loop-row.last (at_drop_all log_of c.args.log.now c.loop-row.row-index c.loop-row-test.false) c.loop-row.invariant
