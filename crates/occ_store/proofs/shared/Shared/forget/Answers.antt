use Rattle.std.proofs.Common.{refl, sym, ap, subst}
use Rattle.occ_store.proofs.Keeping.{between}
use Rattle.occ_store.proofs.Happening.{stored_by, happens_visiting, ran_on, still_here}
use Rattle.occ_model.specs.Event.{Forget, Forgotten}
use Rattle.occ_model.specs.Replies.{replied}
use Rattle.occ_store.specs.Locked.{Locked}
use Rattle.occ_store.specs.Transactions.{MayRead}
use Rattle.occ_store.proofs.Histories.{may_read}
use Rattle.occ_store.proofs.shared.Shared.forget.Goals as goal

pub invariant_of-self : goal.invariant_of-self
invariant_of-self g c = record {
  shown = between _ _ _ _ _ _ _ c.law.ensures.invariant refl refl c.forget-known.ensures.0 (ap (λ f. f.file) c.forget-known.ensures.1) c.self.invariant.shown;
  ran = ran_on g.N.Name.named _ _ _ _ _ _ c.self.invariant.ran c.forget-known.ensures.0 c.add.ensures.added;
  here = still_here c.self.inside.visitor c.add.new.me _ _ _ c.self.invariant.here c.add.ensures.seen;
}

pub returns : goal.returns
returns g c = happens_visiting _ _ _ _ _ c.self.view_is c.add.new.me _ _ _ _ _ c.add.ensures.added c.add.ensures.before c.add.ensures.whole c.add.ensures.seen _ (sym (stored_by _ c.args.session _ c.forget-known.result (λ x. refl))) c.forget-known.ensures

pub add-requires : goal.add-requires
add-requires g c = record { own = may_read c.self.inside.visitor.party c.args.session (Forget c.args.session c.args.number) (replied Forgotten c.forget-known.result) c.self.invariant.here.0 (subst (λ (l : Locked). MayRead l.visitor.party c.args.session) (sym c.self.view_is) c.requires.own) refl refl }
