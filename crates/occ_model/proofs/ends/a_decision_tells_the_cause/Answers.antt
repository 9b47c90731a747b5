use Rattle.occ_model.proofs.RowsStay.{causes_are_told}
use Rattle.occ_model.proofs.ends.a_decision_tells_the_cause.Goals as goal

pub returns : goal.returns
returns c = causes_are_told
