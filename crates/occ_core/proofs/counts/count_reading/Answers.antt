use Rattle.std.proofs.Common.{◌<◌, arith}
use Rattle.occ_core.proofs.Figures.{reading_found, reading_skipped}
use Rattle.occ_core.proofs.counts.count_reading.Goals as goal
use Rattle.occ_core.proofs.counts.count_reading.Goals.{then-is_reading, else-is_reading}

pub loop-place-preserved : goal.loop-place-preserved
loop-place-preserved g c =
    let less : c.loop-place.place < c.args.sessions = omega arith in
    elim c.if-is_reading.branch [
      | then-is_reading w ↦ reading_found c.args.phases.now c.args.sessions c.loop-place.place c.loop-place.count c.if-is_reading.count less w.if-is_reading.ensures w.count-is c.loop-place.invariant
      | else-is_reading w ↦ reading_skipped c.args.phases.now c.args.sessions c.loop-place.place c.loop-place.count c.if-is_reading.count less w.if-is_reading.ensures w.count-is c.loop-place.invariant
    ]
