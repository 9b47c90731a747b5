use Rattle.std.proofs.Common.{refl, ◌∙◌}
use Rattle.occ_filed.proofs.Tied.{moved}
use Rattle.occ_filed.proofs.Filing.{moves}
use Rattle.occ_core.proofs.Tallies.{quiet}
use Rattle.occ_model.specs.Event.{Forgotten}
use Rattle.occ_filed.proofs.filed_core.FiledCore.forget.Goals as goal

pub invariant_of-self : goal.invariant_of-self
invariant_of-self g c = moved _ _ _ _ _ _ refl c.forget.ensures.step c.self.invariant

pub returns : goal.returns
returns g c = moves _ _ _ _ _ c.self.view_is _ _ _ _ c.forget.ensures.step (c.forget.ensures.totals ∙ quiet Forgotten _ c.forget.result (λ _. refl))
