use Rattle.occ_model.proofs.WorkedExamples as laws
use Rattle.occ_model.proofs.examples.absent_deletion.Goals as goal

pub returns : goal.returns
returns c = laws.absent_deletion
