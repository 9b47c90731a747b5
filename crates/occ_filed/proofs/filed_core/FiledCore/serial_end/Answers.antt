use Rattle.std.proofs.Common.{refl}
use Rattle.occ_filed.proofs.Tied.{moved}
use Rattle.occ_filed.proofs.Filing.{moves}
use Rattle.occ_filed.proofs.filed_core.FiledCore.serial_end.Goals as goal

pub invariant_of-self : goal.invariant_of-self
invariant_of-self g c = moved _ _ _ _ _ _ refl c.serial_end.ensures.step c.self.invariant

pub returns-clause-step : goal.returns-clause-step
returns-clause-step g c = moves _ _ _ _ _ c.self.view_is _ _ _ _ c.serial_end.ensures.step c.serial_end.ensures.totals
