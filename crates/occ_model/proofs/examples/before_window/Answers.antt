use Rattle.occ_model.proofs.WorkedExamples as laws
use Rattle.occ_model.proofs.examples.before_window.Goals as goal

pub returns : goal.returns
returns c = laws.before_window
