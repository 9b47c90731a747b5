use Rattle.occ_model.proofs.SerialEnds.{serial_end}
use Rattle.occ_model.proofs.laws.a_serial_end_is_its_parts.Goals as goal

pub returns : goal.returns
returns c = serial_end
