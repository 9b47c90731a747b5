use Rattle.std.proofs.Common.{refl, sym, ap}
use Rattle.occ_store.proofs.Keeping.{between}
use Rattle.occ_store.proofs.Happening.{stored_by, happens_visiting, ran_on, still_here}
use Rattle.occ_store.proofs.shared.Shared.scan.Goals as goal

pub invariant_of-self : goal.invariant_of-self
invariant_of-self g c = record {
  shown = between _ _ _ _ _ _ _ c.law.ensures.invariant refl refl c.scan-rows.ensures.0 (ap (λ f. f.file) c.scan-rows.ensures.1) c.self.invariant.shown;
  ran = ran_on g.N.Name.named _ _ _ _ _ _ c.self.invariant.ran c.scan-rows.ensures.0 c.add.ensures.added;
  here = still_here c.self.inside.visitor c.add.new.me _ _ _ c.self.invariant.here c.add.ensures.seen;
}

pub returns : goal.returns
returns g c = happens_visiting _ _ _ _ _ c.self.view_is c.add.new.me _ _ _ _ _ c.add.ensures.added c.add.ensures.before c.add.ensures.whole c.add.ensures.seen _ (sym (stored_by _ c.args.session _ c.scan-rows.result (λ x. refl))) c.scan-rows.ensures
