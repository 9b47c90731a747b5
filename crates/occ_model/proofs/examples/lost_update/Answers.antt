use Rattle.occ_model.proofs.WorkedExamples as laws
use Rattle.occ_model.proofs.examples.lost_update.Goals as goal

pub returns : goal.returns
returns c = laws.lost_update
