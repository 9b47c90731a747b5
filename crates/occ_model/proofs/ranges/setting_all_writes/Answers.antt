use Rattle.occ_model.proofs.OwnWrites as laws
use Rattle.occ_model.proofs.ranges.setting_all_writes.Goals as goal

pub returns : goal.returns
returns c = laws.sets_all
