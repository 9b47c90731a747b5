use Rattle.occ_model.proofs.RowsStay.{cases_stay}
use Rattle.occ_model.proofs.ends.cases_stay.Goals as goal

pub returns : goal.returns
returns c = cases_stay
