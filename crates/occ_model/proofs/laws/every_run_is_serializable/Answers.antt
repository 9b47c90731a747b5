use Rattle.occ_model.proofs.Headlines.{headline}
use Rattle.occ_model.proofs.laws.every_run_is_serializable.Goals as goal

pub returns : goal.returns
returns c = headline
