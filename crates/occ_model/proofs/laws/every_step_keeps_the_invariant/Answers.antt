use Rattle.occ_model.proofs.Steps.{keeps}
use Rattle.occ_model.proofs.laws.every_step_keeps_the_invariant.Goals as goal

pub returns : goal.returns
returns c = (λ old new event reply inv step. keeps old event reply new inv step)
