use Rattle.std.proofs.Common.{sym, ap, subst, ◌∙◌}
use Rattle.occ_model.specs.Step.{Run}
use Rattle.occ_history.specs.History.{StoryView}
use Rattle.occ_history.specs.Rule.{visitor}
use Rattle.occ_store.specs.Names.{opened_as}
use Rattle.occ_store.specs.Locked.{Locked}
use Rattle.occ_store.proofs.shared.Shared.observer.Goals as goal

pub invariant_of-self : goal.invariant_of-self
invariant_of-self g c = record {
  shown = c.self.invariant.shown;
  ran = subst (λ (s : StoryView). Run (opened_as g.N.Name.named) s.log c.self.inside.filed.world) (sym c.visitor.ensures.same) c.self.invariant.ran;
  here = c.self.invariant.here;
}

pub returns-clause-front : goal.returns-clause-front
returns-clause-front g c = c.visitor.ensures.front ∙ ap (λ (l : Locked). visitor l.story) c.self.view_is
