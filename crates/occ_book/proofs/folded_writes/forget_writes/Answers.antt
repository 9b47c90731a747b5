use Rattle.std.proofs.Common.{◌∙◌}
use Rattle.occ_book.proofs.folded_writes.forget_writes.Goals as goal

pub loop-place-preserved : goal.loop-place-preserved
loop-place-preserved g c = record {
  same = c.forget_at.ensures.same ∙ c.loop-place.invariant.same;
  placed = λ tables are. c.forget_at.ensures.placed tables (c.loop-place.invariant.placed tables are);
}
