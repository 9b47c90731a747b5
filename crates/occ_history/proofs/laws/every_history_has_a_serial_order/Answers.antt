use Rattle.occ_history.proofs.Serial.{histories_are_serial}
use Rattle.occ_history.proofs.laws.every_history_has_a_serial_order.Goals as goal

pub returns : goal.returns
returns c = histories_are_serial
