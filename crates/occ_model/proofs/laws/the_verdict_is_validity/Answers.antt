use Rattle.occ_model.proofs.Headlines.{verdict_is_validity}
use Rattle.occ_model.proofs.laws.the_verdict_is_validity.Goals as goal

pub returns : goal.returns
returns c = verdict_is_validity
