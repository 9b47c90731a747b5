use Rattle.std.proofs.Common.{None, refl, subst, sym}
use Rattle.occ_filed.specs.Filed.{AreTied}
use Rattle.occ_filed.proofs.Tied.{entered_tied}
use Rattle.occ_filed.proofs.Filing.{enters}
use Rattle.occ_filed.proofs.filed_core.FiledCore.enter_unfiled.Goals as goal

pub invariant_of-self : goal.invariant_of-self
invariant_of-self g c = subst (AreTied _ _) (sym c.keep_none.ensures) (entered_tied _ _ _ _ _ _ _ c.in-Ok.ensures.step c.self.invariant)

pub invariant_of-self-in-Err : goal.invariant_of-self-in-Err
invariant_of-self-in-Err g c = entered_tied _ _ _ _ _ _ _ c.in-Err.ensures.step c.self.invariant

pub returns-in-Ok-clause-step : goal.returns-in-Ok-clause-step
returns-in-Ok-clause-step g c = enters _ _ _ _ _ c.self.view_is _ _ _ _ _ _ _ c.keep_none.ensures c.in-Ok.ensures.step c.in-Ok.ensures.totals

pub returns-in-Err-clause-step : goal.returns-in-Err-clause-step
returns-in-Err-clause-step g c = enters _ _ _ _ _ c.self.view_is _ _ _ _ _ None _ refl c.in-Err.ensures.step c.in-Err.ensures.totals
