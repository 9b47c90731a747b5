use Rattle.occ_history.proofs.Standing.{answers_stand}
use Rattle.occ_history.proofs.laws.answers_stand_in_one_history.Goals as goal

pub returns : goal.returns
returns c = answers_stand
