use Rattle.std.proofs.Common.{ap, subst, sym, ◌∙◌}
use Rattle.occ_model.specs.Invariant.{Invariant}
use Rattle.occ_model.specs.Step.{Run}
use Rattle.occ_model.specs.World.{World}
use Rattle.occ_store.specs.Names.{opened_as}
use Rattle.occ_run.proofs.Ending.{reported}
use Rattle.occ_run.proofs.outcomes.write_state.Goals as goal

pub returns : goal.returns
returns g c =
    let is = c.core.ensures.world in
    reported c.args.book (g.W.Write.contents c.args.writer.now) (g.W.Write.contents c.write_whole.new.writer) g.N.Name.named g.L.Load.retries g.L.Load.plans c.args.limits c.write_whole.result (record {
      world = c.core.result.now.world;
      story = c.args.shared.now.story.log;
      ran = subst (Run (opened_as g.N.Name.named) c.args.shared.now.story.log) (sym is) c.law.ensures.ran;
      law = subst Invariant (sym is) c.law.ensures.invariant;
      opened_so = ap (λ (w : World). w.settings) is ∙ c.law.ensures.settings;
      refused = c.args.refused.now;
      each = c.requires.many;
      played = c.requires.played;
    }) c.write_whole.ensures
