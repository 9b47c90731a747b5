use Rattle.std.proofs.Common.{◌+◌, drop, sym, ap, subst, ◌∙◌}
use Rattle.occ_audit.proofs.Common.{drop_at, at_drop_all, Explained, serial, clash, log_of, via, along, at_next}
use Rattle.occ_audit.proofs.serial_replay.replay.Goals as goal

pub returns-then-not-branch : goal.returns-then-not-branch
returns-then-not-branch g c = λ e.
    let here = at_next (λ rows. Explained c.loop-row.replica (log_of rows)) c.args.log.now c.loop-row.row-index c.row-item.result c.loop-row-test.true c.row-item.is c.loop-row.invariant.0 in
    clash c.in_ok-play.field-0 (c.in_ok-play.ensures.explained.1 (here.0 e).0) c.if-not-branch.true

pub loop-row-preserved : goal.loop-row-preserved
loop-row-preserved g c =
    let state = c.loop-row.replica in
    let rest = log_of (drop (c.loop-row.row-index + 1) c.args.log.now) in
    let left = drop_at c.args.log.now c.loop-row.row-index c.row-item.result c.row-item.result c.loop-row-test.true c.row-item.is in
    let here = at_next (λ rows. Explained state (log_of rows)) c.args.log.now c.loop-row.row-index c.row-item.result c.loop-row-test.true c.row-item.is c.loop-row.invariant.0 in
    let after = c.in_ok-play.ensures.played c.if-not-branch.false in
    let explained = c.in_ok-play.ensures.explained.0 c.if-not-branch.false in (
      via here (via (λ h. h.1, λ h. (explained, h)) (along (λ s. Explained s rest) _ _ (sym after))),
      ap (λ s. serial s rest) after ∙ ap (λ rows. serial state (log_of rows)) (sym left) ∙ c.loop-row.invariant.1,
    )

pub returns : goal.returns
returns g c =
    let none = at_drop_all log_of c.args.log.now c.loop-row.row-index c.loop-row-test.false in
    (c.loop-row.invariant.0.1 (subst (Explained c.loop-row.replica) (sym none) tt), ap (serial c.loop-row.replica) (sym none) ∙ c.loop-row.invariant.1)
