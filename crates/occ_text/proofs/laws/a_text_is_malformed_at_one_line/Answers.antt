use Rattle.occ_text.proofs.ScheduleLaws.{stops_at_one}
use Rattle.occ_text.proofs.laws.a_text_is_malformed_at_one_line.Goals as goal

pub returns : goal.returns
returns c = stops_at_one
