use Rattle.occ_model.proofs.OwnWrites as laws
use Rattle.occ_model.proofs.ranges.distinct_writes_differ.Goals as goal

pub returns : goal.returns
returns c = laws.distinct_writes
