use Rattle.occ_sets.specs.Operations.{ops_of}
use Rattle.occ_model.specs.Event.{RunAlone}
use Rattle.occ_client.proofs.Committing.{unhindered}
use Rattle.occ_client.proofs.clients.Client.run_alone.Goals as goal

pub returns-in-Err-run_alone-clause-step : goal.returns-in-Err-run_alone-clause-step
returns-in-Err-run_alone-clause-step g c = unhindered (λ session next. RunAlone session next (ops_of c.args.operations.items)) _ _ c.self.view_is _ _ _ c.in_default.ensures c.in-Err-run_alone.ensures.step
