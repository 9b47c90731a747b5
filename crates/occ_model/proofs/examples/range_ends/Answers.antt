use Rattle.occ_model.proofs.WorkedExamples as laws
use Rattle.occ_model.proofs.examples.range_ends.Goals as goal

pub returns : goal.returns
returns c = laws.range_ends
