use Rattle.occ_text.proofs.Openings.{schedule_leads}
use Rattle.occ_text.proofs.ScheduleLaws.{told_fits}
use Rattle.occ_text.proofs.laws.the_lines_of_a_schedule_lead_to_its_end.Goals as goal

pub returns-clause-whole : goal.returns-clause-whole
returns-clause-whole c = schedule_leads

pub returns-clause-fits : goal.returns-clause-fits
returns-clause-fits c = told_fits
