use Rattle.occ_model.specs.Event.{Enter, Close}
use Rattle.occ_client.proofs.Committing.{unhindered}
use Rattle.occ_client.proofs.clients.Client.close.Goals as goal

pub returns-in-Err-clause-step : goal.returns-in-Err-clause-step
returns-in-Err-clause-step g c = unhindered (λ session next. Enter session (Close next)) _ _ c.self.view_is _ _ _ c.in_ok-check_closed.ensures c.in-Err.ensures
