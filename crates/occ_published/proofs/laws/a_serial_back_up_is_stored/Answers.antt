use Rattle.occ_published.proofs.Stored.{serial_back_ups_are_stored}
use Rattle.occ_published.proofs.laws.a_serial_back_up_is_stored.Goals as goal

pub returns : goal.returns
returns c = serial_back_ups_are_stored
