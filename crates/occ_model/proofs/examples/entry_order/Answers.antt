use Rattle.occ_model.proofs.WorkedExamples as laws
use Rattle.occ_model.proofs.examples.entry_order.Goals as goal

pub returns : goal.returns
returns c = laws.entry_order
