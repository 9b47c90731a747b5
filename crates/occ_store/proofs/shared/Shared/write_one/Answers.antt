use Rattle.std.proofs.Common.{refl, sym, ap}
use Rattle.occ_store.proofs.Keeping.{between}
use Rattle.occ_store.proofs.Happening.{stored_by, stored_write, happens, ran_on}
use Rattle.occ_store.proofs.shared.Shared.write_one.Goals as goal

pub invariant_of-self : goal.invariant_of-self
invariant_of-self g c = record {
  shown = between _ _ _ _ _ _ _ c.law.ensures.invariant refl refl c.write_one-wrote.ensures.step.0 (ap (λ f. f.file) c.write_one-wrote.ensures.step.1) c.self.invariant.shown;
  ran = ran_on g.N.Name.named _ _ _ _ _ _ c.self.invariant.ran c.write_one-wrote.ensures.step.0 c.add.ensures.added;
  here = c.self.invariant.here;
}

pub returns : goal.returns
returns g c = happens _ _ _ _ _ c.self.view_is c.args.me.now c.add.new.me _ _ _ c.self.inside.visitor _ _ c.add.ensures.added c.add.ensures.before c.add.ensures.whole c.add.ensures.seen c.args.session (sym (stored_by _ _ _ c.write_one-wrote.result (stored_write _ _ c.write_one-wrote.new.self.world))) c.write_one-wrote.ensures.step
