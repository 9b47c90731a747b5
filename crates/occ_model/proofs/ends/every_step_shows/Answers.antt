use Rattle.occ_model.proofs.EndsShown.{steps_show}
use Rattle.occ_model.proofs.ends.every_step_shows.Goals as goal

pub returns : goal.returns
returns c = steps_show
