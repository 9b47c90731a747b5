use Rattle.std.proofs.Common.{◌≡◌, sym, subst, ◌∙◌}
use Rattle.occ_model.specs.World.{World}
use Rattle.occ_model.specs.Step.{Run}
use Rattle.occ_store.specs.Names.{opened_as}
use Rattle.occ_store.proofs.Keeping.{over_judged, judged_step, judged_same}
use Rattle.occ_store.proofs.Happening.{ran_on, wrongly_judged, rightly_judged}
use Rattle.occ_store.proofs.Points.{untrue}
use Rattle.occ_store.proofs.shared.Shared.decide_by.Goals as goal

-- the verdict is on another case
pub invariant_of-self : goal.invariant_of-self
invariant_of-self g c = record {
  shown = over_judged _ _ _ _ _ _ _ _ c.law.ensures.invariant c.decide_by-decided.ensures.decides c.self.invariant.shown;
  ran = subst (λ (w : World). Run (opened_as g.N.Name.named) c.self.inside.story.log w)
      (sym (judged_same _ _ _ _ _ c.decide_by-decided.ensures.decides (c.is_of_another.ensures.yes c.if-is_of_another.true))) c.self.invariant.ran;
  here = c.self.invariant.here;
}

pub returns-then-is_of_another : goal.returns-then-is_of_another
returns-then-is_of_another g c =
    wrongly_judged _ _ _ _ _ c.self.view_is c.args.me.now c.decide_by-decided.new.self c.args.session c.args.judged c.decide_by-decided.result c.decide_by-decided.ensures.decides
    (c.is_of_another.ensures.yes c.if-is_of_another.true)

-- it isn't
pub invariant_of-self-2 : goal.invariant_of-self-2
invariant_of-self-2 g c = record {
  shown = over_judged _ _ _ _ _ _ _ _ c.law.ensures.invariant c.decide_by-decided.ensures.decides c.self.invariant.shown;
  ran = ran_on g.N.Name.named _ _ _ _ _ _ c.self.invariant.ran
      (judged_step _ _ _ _ _ c.decide_by-decided.ensures.decides (λ wrong. untrue (sym c.if-is_of_another.false ∙ c.is_of_another.ensures.all wrong))) c.add.ensures.added;
  here = c.self.invariant.here;
}

pub returns : goal.returns
returns g c =
    rightly_judged _ _ _ _ _ c.self.view_is c.args.me.now c.decide_by-decided.new.self c.args.session c.args.judged c.decide_by-decided.result c.decide_by-decided.ensures.decides
    (λ wrong. untrue (sym c.if-is_of_another.false ∙ c.is_of_another.ensures.all wrong)) c.add.new.me c.add.new.self
    c.add.ensures.added c.add.ensures.before c.add.ensures.whole c.add.ensures.seen
