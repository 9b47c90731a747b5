use Rattle.std.proofs.Common.{refl, sym, ap, ◌∙◌}
use Rattle.occ_core.specs.OpenCases.{open_case}
use Rattle.occ_filed.proofs.Tied.{moved}
use Rattle.occ_filed.proofs.DecidedBy.{wrong}
use Rattle.occ_filed.proofs.Filing.{decides}
use Rattle.occ_filed.proofs.filed_core.FiledCore.decide_by.Goals as goal

pub returns-then-is_wrong-clause-decides : goal.returns-then-is_wrong-clause-decides
returns-then-is_wrong-clause-decides g c = let w = c.is_wrong.ensures.wrong c.if-is_wrong.true in wrong c.args.self.now c.args.session c.args.judged.index w.0 w.1

pub decide_as-requires : goal.decide_as-requires
decide_as-requires g c = record { right = λ index case at. c.verdict.ensures ∙ c.is_wrong.ensures.right c.if-is_wrong.false index case (sym (ap (λ f. open_case f.world c.args.session) c.self.view_is) ∙ at) }

pub invariant_of-self : goal.invariant_of-self
invariant_of-self g c = moved _ _ _ _ _ _ refl c.decide_as.ensures.step c.self.invariant

pub returns-clause-decides : goal.returns-clause-decides
returns-clause-decides g c = decides _ _ _ _ _ c.self.view_is _ _ _ _ _ c.decide_as.ensures.step c.decide_as.ensures.totals (c.is_wrong.ensures.own c.if-is_wrong.false)
