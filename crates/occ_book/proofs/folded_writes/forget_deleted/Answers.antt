use Rattle.std.proofs.Common.{◌∙◌}
use Rattle.occ_book.proofs.folded_writes.forget_deleted.Goals as goal

pub loop-row-preserved : goal.loop-row-preserved
loop-row-preserved g c = record {
  same = c.forget_writes.ensures.same ∙ c.loop-row.invariant.same;
  placed = λ tables are. c.forget_writes.ensures.placed tables (c.loop-row.invariant.placed tables are);
}
