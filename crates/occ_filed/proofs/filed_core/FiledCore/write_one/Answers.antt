use Rattle.std.proofs.Common.{refl, ◌∙◌}
use Rattle.occ_core.specs.Replies.{wrote}
use Rattle.occ_core.proofs.Tallies.{quiet, wrote_uncounted}
use Rattle.occ_filed.proofs.Tied.{moved}
use Rattle.occ_filed.proofs.Filing.{moves}
use Rattle.occ_filed.proofs.filed_core.FiledCore.write_one.Goals as goal

pub invariant_of-self : goal.invariant_of-self
invariant_of-self g c = moved _ _ _ _ _ _ refl c.write_one.ensures.step c.self.invariant

pub returns-clause-step : goal.returns-clause-step
returns-clause-step g c = moves _ _ _ _ _ c.self.view_is _ _ _ _ c.write_one.ensures.step (c.write_one.ensures.totals ∙ quiet (wrote c.write_one.new.self.world) _ c.write_one.result (wrote_uncounted _ c.write_one.new.self.world))
