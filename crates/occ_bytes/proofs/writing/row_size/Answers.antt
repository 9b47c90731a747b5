use Rattle.std.proofs.Common.{arith}
use Rattle.occ_bytes.proofs.Rooms.{size_turn}
use Rattle.occ_bytes.proofs.writing.row_size.Goals as goal

pub loop-place-preserved : goal.loop-place-preserved
loop-place-preserved g c = size_turn _ _ _ _ _ (omega (arith, c.loop-place-test.true, c.len-place-end.ensures)) c.loop-place.invariant c.size_at.ensures c.saturating_add-size.ensures
