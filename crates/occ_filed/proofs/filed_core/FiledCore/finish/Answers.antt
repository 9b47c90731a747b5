use Rattle.std.proofs.Common.{refl}
use Rattle.occ_filed.proofs.Tied.{moved}
use Rattle.occ_filed.proofs.Filing.{moves}
use Rattle.occ_filed.proofs.filed_core.FiledCore.finish.Goals as goal

pub invariant_of-self : goal.invariant_of-self
invariant_of-self g c = moved _ _ _ _ _ _ refl c.finish.ensures.step c.self.invariant

pub returns : goal.returns
returns g c = moves _ _ _ _ _ c.self.view_is _ _ _ _ c.finish.ensures.step c.finish.ensures.totals
