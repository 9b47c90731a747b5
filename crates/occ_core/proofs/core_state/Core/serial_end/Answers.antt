use Rattle.std.proofs.Common.{rules}
use Rattle.occ_core.proofs.SerialEnding.{end_of, end_marked, end_unmarked}
use Rattle.occ_core.proofs.RunsAlone.{alone_ended}
use Rattle.occ_core.proofs.core_state.Core.serial_end.Goals as goal

pub returns-in-Ok-clause-step : goal.returns-in-Ok-clause-step
returns-in-Ok-clause-step g c = end_of _ _ _ _ _ _ c.in-Ok.ensures.step (search rules)

pub returns-in-Err-clause-step : goal.returns-in-Err-clause-step
returns-in-Err-clause-step g c = end_of _ _ _ _ _ _ c.in-Err.ensures.step (search rules)

pub returns-in-Alone-clause-step : goal.returns-in-Alone-clause-step
returns-in-Alone-clause-step g c = end_of _ _ _ _ _ _ (alone_ended _ _ _ _ _ _ c.take_alone.ensures.step) (search rules)

pub returns-in-Ok-enter_close-clause-step : goal.returns-in-Ok-enter_close-clause-step
returns-in-Ok-enter_close-clause-step g c = end_of _ _ _ _ _ _ (end_marked _ _ _ _ c.in-Ok-enter_close.ensures.step) (search rules)

pub returns-in-Err-enter_close-clause-step : goal.returns-in-Err-enter_close-clause-step
returns-in-Err-enter_close-clause-step g c = end_of _ _ _ _ _ _ (end_unmarked _ _ _ _ _ c.in-Err-enter_close.ensures.step) (search rules)

pub returns-in-Alone-clause-handed_back : goal.returns-in-Alone-clause-handed_back
returns-in-Alone-clause-handed_back g c = rw c.in-Alone.is c.take_alone.ensures.handed_back

pub returns-in-Alone-clause-outcome : goal.returns-in-Alone-clause-outcome
returns-in-Alone-clause-outcome g c = rw c.in-Alone.is c.take_alone.ensures.outcome
