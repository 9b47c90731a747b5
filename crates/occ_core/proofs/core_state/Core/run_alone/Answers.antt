use Rattle.std.proofs.Common.{ap}
use Rattle.occ_sets.specs.Operations.{ops_of}
use Rattle.occ_core.proofs.RunsAlone.{run_of}
use Rattle.occ_core.proofs.core_state.Core.run_alone.Goals as goal

pub returns-in-Ok-clause-step : goal.returns-in-Ok-clause-step
returns-in-Ok-clause-step g c = run_of _ _ _ _ _ _ _ c.in-Ok.ensures.step (ap ops_of c.as_slice.ensures.value)

pub returns-in-Err-clause-step : goal.returns-in-Err-clause-step
returns-in-Err-clause-step g c = run_of _ _ _ _ _ _ _ c.in-Err.ensures.step (ap ops_of c.as_slice.ensures.value)
