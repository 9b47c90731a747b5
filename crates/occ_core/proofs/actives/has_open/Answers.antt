use Rattle.std.proofs.Common.{◌<◌, length, sym, arith}
use Rattle.std.specs.List.{list_any}
use Rattle.occ_log.specs.Logs.{row_at}
use Rattle.occ_core.specs.Folding.{holds_open}
use Rattle.occ_core.proofs.OpenRows.{open_found, open_skipped}
use Rattle.occ_core.proofs.actives.has_open.Goals as goal

pub returns-then-is_open_at : goal.returns-then-is_open_at
returns-then-is_open_at g c = sym (open_found (row_at c.args.log.now) c.args.sessions.now c.loop-place.place (sym c.if-is_open_at.ensures))

pub loop-place-preserved : goal.loop-place-preserved
loop-place-preserved g c =
    let less : c.loop-place.place < length c.args.sessions.now = omega arith in
    open_skipped (row_at c.args.log.now) c.args.sessions.now c.loop-place.place (list_any (holds_open (row_at c.args.log.now)) c.args.sessions.now) less (sym c.if-is_open_at.ensures) c.loop-place.invariant
