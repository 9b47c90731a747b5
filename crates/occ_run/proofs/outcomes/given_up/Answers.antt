use Rattle.occ_run.specs.Clients.{gave_up}
use Rattle.occ_run.proofs.Playing.{gathered_more}
use Rattle.occ_run.proofs.outcomes.given_up.Goals as goal

pub loop-client-preserved : goal.loop-client-preserved
loop-client-preserved g c = gathered_more gave_up _ c.loop-client.client-index c.client-item.result _ _ _ c.loop-client-test.true c.client-item.is c.loop-client.invariant c.in_ok-push_some.ensures c.gave_up.ensures
