use Rattle.std.proofs.Common.{refl, sym, ap}
use Rattle.occ_store.proofs.Keeping.{between}
use Rattle.occ_store.proofs.Happening.{stored_by, happens, ran_on}
use Rattle.occ_store.proofs.shared.Shared.checkpoint.Goals as goal

pub invariant_of-self : goal.invariant_of-self
invariant_of-self g c = record {
  shown = between _ _ _ _ _ _ _ c.law.ensures.invariant refl refl c.checkpoint-folded.ensures.0 (ap (λ f. f.file) c.checkpoint-folded.ensures.1) c.self.invariant.shown;
  ran = ran_on g.N.Name.named _ _ _ _ _ _ c.self.invariant.ran c.checkpoint-folded.ensures.0 c.add.ensures.added;
  here = c.self.invariant.here;
}

pub returns : goal.returns
returns g c = λ session. happens _ _ _ _ _ c.self.view_is c.args.me.now c.add.new.me _ _ _ c.self.inside.visitor _ _ c.add.ensures.added c.add.ensures.before c.add.ensures.whole c.add.ensures.seen session (sym (stored_by _ session _ c.checkpoint-folded.result (λ x. refl))) c.checkpoint-folded.ensures
