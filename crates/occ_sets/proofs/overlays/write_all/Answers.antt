use Rattle.std.proofs.Common.{◌<◌, length, sym, ap, ◌∙◌, arith}
use Rattle.occ_model.specs.State.{put, apply}
use Rattle.occ_sets.specs.Handles.{kept}
use Rattle.occ_sets.proofs.Agreement.{at_place, drop-slice_get}
use Rattle.occ_sets.proofs.overlays.write_all.Goals as goal

-- the next write is done
pub loop-place-preserved : goal.loop-place-preserved
loop-place-preserved g c = λ state h.
    let before = c.loop-place.invariant state h in
    let within : c.loop-place.place < length (kept c.args.writes.now) = omega arith in
    let here = at_place (kept c.args.writes.now) c.loop-place.place within in (
      put before.0 here.0,
      c.in_ok-write.ensures here.0 here.1 before.0 before.1,
      sym (ap (apply before.0) (drop-slice_get (kept c.args.writes.now) c.loop-place.place here.0 here.1)) ∙ before.2,
    )
