use Rattle.occ_published.proofs.Stored.{back_ups_are_stored}
use Rattle.occ_published.proofs.laws.a_back_up_is_stored.Goals as goal

pub returns : goal.returns
returns c = back_ups_are_stored
