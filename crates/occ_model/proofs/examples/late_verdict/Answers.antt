use Rattle.occ_model.proofs.WorkedExamples as laws
use Rattle.occ_model.proofs.examples.late_verdict.Goals as goal

pub returns : goal.returns
returns c = laws.late_verdict
