use Rattle.std.proofs.Common.{◌<◌, length, arith}
use Rattle.occ_log.specs.SessionStates.{active_from}
use Rattle.occ_log.specs.Logs.{row_at}
use Rattle.occ_core.proofs.Counting.{some_of, none_of, count_found, count_skipped}
use Rattle.occ_core.proofs.actives.count_active.Goals as goal
use Rattle.occ_core.proofs.actives.count_active.Goals.{then-is_some, else-is_some}

pub loop-place-preserved : goal.loop-place-preserved
loop-place-preserved g c =
    let less : c.loop-place.place < length c.args.sessions.now = omega arith in
    elim c.if-is_some.branch [
      | then-is_some w ↦
          let f = some_of _ _ _ c.active_at.ensures w.if-is_some.ensures in
          count_found (row_at c.args.log.now) c.args.sessions.now c.loop-place.place c.loop-place.count c.if-is_some.count (length (active_from (row_at c.args.log.now) c.args.sessions.now)) f.0 less f.1 w.count-is c.loop-place.invariant
      | else-is_some w ↦
          count_skipped (row_at c.args.log.now) c.args.sessions.now c.loop-place.place c.loop-place.count c.if-is_some.count (length (active_from (row_at c.args.log.now) c.args.sessions.now)) less (none_of _ _ _ c.active_at.ensures w.if-is_some.ensures) w.count-is c.loop-place.invariant
    ]
