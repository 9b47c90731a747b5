use Rattle.occ_model.proofs.OwnWrites as laws
use Rattle.occ_model.proofs.ranges.own_writes_are_seen.Goals as goal

pub returns : goal.returns
returns c = laws.overlays_answer
