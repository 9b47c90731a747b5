use Rattle.occ_text.proofs.LinesTaken.{◌and◌, fails}
use Rattle.occ_run.proofs.Whole.{workload_fails}
use Rattle.occ_run.proofs.workloads.read_workload.Goals as goal

pub returns-in_err-schema-clause-taken : goal.returns-in_err-schema-clause-taken
returns-in_err-schema-clause-taken g c =
    let fault = c.in_err-schema.field-0.0 in
    workload_fails fault c.from_residual-in_err-schema.result _ _ c.from_residual-in_err-schema.ensures.1 (fails fault _ c.in_ok-settings.ensures.gives.0 c.in_err-schema.ensures.taken)

pub returns-in_err-plans-clause-taken : goal.returns-in_err-plans-clause-taken
returns-in_err-plans-clause-taken g c =
    let fault = c.in_err-plans.field-0.0 in
    workload_fails fault c.from_residual-in_err-plans.result _ _ c.from_residual-in_err-plans.ensures.1 (fails fault _ (c.in_ok-settings.ensures.gives.0 and c.in_ok-schema.ensures.taken.0) c.in_err-plans.ensures.taken)

pub returns-clause-taken : goal.returns-clause-taken
returns-clause-taken g c =
    let t = c.in_ok-plans.ensures.taken in
    (t.0, t.1, c.in_ok-settings.ensures.gives.0 and (c.in_ok-schema.ensures.taken.0 and t.2), t.3, t.4, t.5)

pub take_plans-requires : goal.take_plans-requires
take_plans-requires g c = c.in_ok-settings.ensures.gives.1
