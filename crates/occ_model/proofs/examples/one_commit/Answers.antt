use Rattle.occ_model.proofs.WorkedExamples as laws
use Rattle.occ_model.proofs.examples.one_commit.Goals as goal

pub returns : goal.returns
returns c = laws.one_commit
