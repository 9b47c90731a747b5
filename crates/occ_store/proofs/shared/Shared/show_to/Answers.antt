use Rattle.std.proofs.Common.{sym, ap, subst, ◌∙◌}
use Rattle.occ_model.specs.Step.{Run}
use Rattle.occ_history.specs.History.{StoryView, FrontView, Begins}
use Rattle.occ_store.specs.Names.{opened_as}
use Rattle.occ_store.specs.Locked.{Locked}
use Rattle.occ_store.proofs.shared.Shared.show_to.Goals as goal

pub invariant_of-self : goal.invariant_of-self
invariant_of-self g c = record {
  shown = c.self.invariant.shown;
  ran = subst (λ (s : StoryView). Run (opened_as g.N.Name.named) s.log c.self.inside.filed.world) (sym c.catch_up.ensures.same) c.self.invariant.ran;
  here = c.self.invariant.here;
}

pub returns-clause-seen : goal.returns-clause-seen
returns-clause-seen g c = c.catch_up.ensures.seen ∙ ap (λ (l : Locked). record c.args.front.now { seen = l.story.log }) c.self.view_is

pub returns-clause-before : goal.returns-clause-before
returns-clause-before g c = subst (Begins c.args.front.now) (sym c.catch_up.ensures.seen) (c.catch_up.ensures.before, c.catch_up.ensures.whole)
