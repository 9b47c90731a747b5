use Rattle.std.proofs.Common.{arith}
use Rattle.occ_sharing.proofs.Holdings.{added, fresh}
use Rattle.occ_sharing.proofs.held.idle_clients.Goals as goal

pub loop-done-preserved : goal.loop-done-preserved
loop-done-preserved g c = added _ _ _ _ c.loop-done.invariant c.in_ok-push.ensures.items (fresh _ c.loop-done.done _ (omega (arith, c.loop-done-test.true)) c.new.ensures)
