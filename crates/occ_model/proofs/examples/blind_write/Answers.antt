use Rattle.occ_model.proofs.WorkedExamples as laws
use Rattle.occ_model.proofs.examples.blind_write.Goals as goal

pub returns : goal.returns
returns c = laws.blind_write
