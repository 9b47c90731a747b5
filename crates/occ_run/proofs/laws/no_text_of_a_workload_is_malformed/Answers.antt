use Rattle.occ_run.proofs.WorkloadLaws.{workload_never_stops}
use Rattle.occ_run.proofs.laws.no_text_of_a_workload_is_malformed.Goals as goal

pub returns : goal.returns
returns c = workload_never_stops
