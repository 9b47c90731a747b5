use Rattle.occ_run.proofs.Playing.{closes}
use Rattle.occ_run.proofs.clients.close.Goals as goal

pub returns-in-Ok : goal.returns-in-Ok
returns-in-Ok g c = closes _ _ _ _ c.loop.invariant c.in-Ok.ensures.ok
