use Rattle.occ_model.proofs.InSchema.{runs_stay_in_schema}
use Rattle.occ_model.proofs.laws.every_run_stays_in_its_schema.Goals as goal

pub returns : goal.returns
returns c = (λ settings events world run. runs_stay_in_schema settings events world run)
