use Rattle.std.proofs.Common.{arith}
use Rattle.occ_bytes.proofs.Rooms.{put_turn}
use Rattle.occ_bytes.proofs.writing.put_row.Goals as goal

pub loop-place-preserved : goal.loop-place-preserved
loop-place-preserved g c = put_turn _ _ _ _ _ _ _ _ (omega (arith, c.loop-place-test.true, c.len-place-end.ensures)) c.loop-place.invariant c.put_place-behind.ensures.length c.put_place-behind.ensures.put
