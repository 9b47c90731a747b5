use Rattle.occ_client.proofs.StepsFollow.{alone, beside}
use Rattle.occ_client.proofs.ending.end_request.Goals as goal

pub returns-then-active-gt0-clause-step : goal.returns-then-active-gt0-clause-step
returns-then-active-gt0-clause-step g c = beside _ _ _ _ _ _ _ c.active.ensures c.if-active-gt0.true c.end_by_steps.ensures.step

pub returns-in-Err-clause-step : goal.returns-in-Err-clause-step
returns-in-Err-clause-step g c = alone _ _ _ _ _ _ c.active.ensures c.if-active-gt0.false c.in-Err.ensures.step
