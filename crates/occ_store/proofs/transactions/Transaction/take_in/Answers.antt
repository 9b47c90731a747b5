use Rattle.std.proofs.Common.{refl, ap, arith}
use Rattle.occ_model.specs.Event.{Refused}
use Rattle.occ_store.specs.Lanes.{Kept}
use Rattle.occ_store.proofs.transactions.Transaction.take_in.Goals as goal

pub returns-in-Err-clause-step : goal.returns-in-Err-clause-step
returns-in-Err-clause-step g c = (
  Refused c.in-Err.refused.fault,
  c.in-Err.ensures.step,
  refl,
  ap Kept c.in-Err.ensures.handed_back,
  omega arith,
)
