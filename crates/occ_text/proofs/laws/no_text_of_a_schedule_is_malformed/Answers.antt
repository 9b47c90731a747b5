use Rattle.occ_text.proofs.ScheduleLaws.{schedule_never_stops}
use Rattle.occ_text.proofs.laws.no_text_of_a_schedule_is_malformed.Goals as goal

pub returns : goal.returns
returns c = schedule_never_stops
