use Rattle.occ_model.proofs.RowsStay.{causes_stay}
use Rattle.occ_model.proofs.ends.causes_stay.Goals as goal

pub returns : goal.returns
returns c = causes_stay
