use Rattle.occ_model.proofs.Headlines.{refusals_leave}
use Rattle.occ_model.proofs.laws.a_refused_step_changes_nothing.Goals as goal

pub returns : goal.returns
returns c = refusals_leave
