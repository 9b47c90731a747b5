use Rattle.std.proofs.Common.{◌+◌, drop, sym, ap, ◌∙◌}
use Rattle.occ_audit.proofs.Common.{drop_at, at_drop_all, apply, settled, writes_in, log_of}
use Rattle.occ_audit.proofs.rests.rests_of.Goals as goal

pub loop-row-preserved : goal.loop-row-preserved
loop-row-preserved g c = λ table.
    let log = c.args.log.now in
    let i = c.loop-row.row-index in
    let state = apply table (writes_in c.loop-row.rests.entries) in
    let left = drop_at log i c.row-item.result c.row-item.result c.loop-row-test.true c.row-item.is in
    ap (λ s. settled s (log_of (drop (i + 1) log))) (c.in_ok-note_rest.ensures table)
    ∙ ap (λ rows. settled state (log_of rows)) (sym left)
    ∙ c.loop-row.invariant table

pub returns : goal.returns
returns g c = λ table.
    let state = apply table (writes_in c.loop-row.rests.entries) in
    sym (at_drop_all (λ rows. settled state (log_of rows)) c.args.log.now c.loop-row.row-index c.loop-row-test.false)
    ∙ c.loop-row.invariant table
