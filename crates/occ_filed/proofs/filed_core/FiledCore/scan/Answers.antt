use Rattle.std.proofs.Common.{refl, ◌∙◌}
use Rattle.occ_filed.proofs.Tied.{moved}
use Rattle.occ_filed.proofs.Filing.{moves}
use Rattle.occ_core.proofs.Tallies.{quiet}
use Rattle.occ_model.specs.State.{Rows}
use Rattle.occ_model.specs.Event.{Answered}
use Rattle.occ_filed.proofs.filed_core.FiledCore.scan.Goals as goal

pub invariant_of-self : goal.invariant_of-self
invariant_of-self g c = moved _ _ _ _ _ _ refl c.scan.ensures.step c.self.invariant

pub returns : goal.returns
returns g c = moves _ _ _ _ _ c.self.view_is _ _ _ _ c.scan.ensures.step (c.scan.ensures.totals ∙ quiet (λ rows. Answered (Rows rows)) _ c.scan.result (λ _. refl))
