use Rattle.occ_model.proofs.OwnWrites as laws
use Rattle.occ_model.proofs.ranges.unasked_writes_are_unseen.Goals as goal

pub returns : goal.returns
returns c = laws.unasked_unseen
