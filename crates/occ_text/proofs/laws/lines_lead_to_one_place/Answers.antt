use Rattle.occ_text.proofs.ScheduleLaws.{leads_to_one}
use Rattle.occ_text.proofs.laws.lines_lead_to_one_place.Goals as goal

pub returns : goal.returns
returns c = leads_to_one
