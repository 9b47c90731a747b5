use Rattle.occ_model.proofs.OwnWrites as laws
use Rattle.occ_model.proofs.ranges.setting_a_write.Goals as goal

pub returns : goal.returns
returns c = laws.sets_own
