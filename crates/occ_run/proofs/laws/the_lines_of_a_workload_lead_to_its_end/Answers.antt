use Rattle.occ_run.proofs.WorkloadLaws.{told_fits}
use Rattle.occ_run.proofs.WorkloadLeads.{workload_leads}
use Rattle.occ_run.proofs.laws.the_lines_of_a_workload_lead_to_its_end.Goals as goal

pub returns-clause-whole : goal.returns-clause-whole
returns-clause-whole c = workload_leads

pub returns-clause-fits : goal.returns-clause-fits
returns-clause-fits c = told_fits
