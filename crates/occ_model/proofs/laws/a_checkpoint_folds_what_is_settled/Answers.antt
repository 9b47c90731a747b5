use Rattle.occ_model.proofs.Checkpoints.{checkpoint_folds}
use Rattle.occ_model.proofs.laws.a_checkpoint_folds_what_is_settled.Goals as goal

pub returns : goal.returns
returns c = checkpoint_folds
