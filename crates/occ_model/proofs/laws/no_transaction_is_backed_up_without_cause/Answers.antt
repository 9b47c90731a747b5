use Rattle.occ_model.proofs.Decisions.{decisions}
use Rattle.occ_model.proofs.laws.no_transaction_is_backed_up_without_cause.Goals as goal

pub returns : goal.returns
returns c = decisions
