use Rattle.std.proofs.Common.{refl, ◌∙◌}
use Rattle.occ_filed.proofs.Tied.{moved}
use Rattle.occ_filed.proofs.Filing.{moves}
use Rattle.occ_core.proofs.Tallies.{quiet}
use Rattle.occ_model.specs.State.{Rows}
use Rattle.occ_model.specs.Event.{Answered}
use Rattle.occ_sets.specs.PlainSets.{rows_of}
use Rattle.occ_filed.proofs.filed_core.FiledCore.scan_apart.Goals as goal

pub invariant_of-self : goal.invariant_of-self
invariant_of-self g c = moved _ _ _ _ _ _ refl c.scan_apart.ensures.step c.self.invariant

pub returns : goal.returns
returns g c = moves _ _ _ _ _ c.self.view_is _ _ _ _ c.scan_apart.ensures.step (c.scan_apart.ensures.totals ∙ quiet (λ rows. Answered (Rows (rows_of rows.items))) _ c.scan_apart.result (λ _. refl))
