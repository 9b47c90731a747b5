use Rattle.occ_store.proofs.Rounds.{all_more}
use Rattle.occ_store.proofs.validators.Group.serve_round.Goals as goal

pub loop-place-preserved : goal.loop-place-preserved
loop-place-preserved g c = record {
  marks = c.serve_place.ensures.marks;
  served = all_more _ _ _ c.loop-place.invariant.served c.serve_place.ensures.served;
  over = c.serve_place.ensures.over;
  stopped = c.serve_place.ensures.stopped;
  ended = c.serve_place.ensures.ended;
  met = c.serve_place.ensures.met;
}
