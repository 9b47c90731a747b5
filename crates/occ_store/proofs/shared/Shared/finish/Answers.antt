use Rattle.std.proofs.Common.{refl, ap}
use Rattle.occ_store.proofs.Keeping.{between, over_end, shown_after, finish_stored}
use Rattle.occ_store.proofs.Happening.{happens, ran_on}
use Rattle.occ_store.proofs.shared.Shared.finish.Goals as goal

pub store_commit-requires : goal.store_commit-requires
store_commit-requires g c = (finish_stored _ _ _ _ _ c.law.ensures.invariant c.in-Ok.ensures.0 c.law-in-Ok.ensures.fits c.self.invariant.shown.published).0

pub invariant_of-self : goal.invariant_of-self
invariant_of-self g c =
    let stored = finish_stored _ _ _ _ _ c.law.ensures.invariant c.in-Ok.ensures.0 c.law-in-Ok.ensures.fits c.self.invariant.shown.published in record {
      shown = over_end _ _ _ c.self.inside.publisher _ _ _ _ refl c.in-Ok.ensures.0 (ap (λ f. f.file) c.in-Ok.ensures.1) (ap (λ p. p.board) c.store_commit.ensures)
          (shown_after _ c.self.inside.publisher _ _ c.store_commit.ensures stored.1) c.self.invariant.shown;
      ran = ran_on g.N.Name.named _ _ _ _ _ _ c.self.invariant.ran c.in-Ok.ensures.0 c.add.ensures.added;
      here = c.self.invariant.here;
    }

pub invariant_of-self-in-Err : goal.invariant_of-self-in-Err
invariant_of-self-in-Err g c = record {
  shown = between _ _ _ _ _ _ _ c.law.ensures.invariant refl refl c.in-Err.ensures.0 (ap (λ f. f.file) c.in-Err.ensures.1) c.self.invariant.shown;
  ran = ran_on g.N.Name.named _ _ _ _ _ _ c.self.invariant.ran c.in-Err.ensures.0 c.add-in-Err.ensures.added;
  here = c.self.invariant.here;
}

pub returns-in-Ok : goal.returns-in-Ok
returns-in-Ok g c = happens _ _ _ _ _ c.self.view_is c.args.me.now c.add.new.me _ _ _ c.self.inside.visitor _ _ c.add.ensures.added c.add.ensures.before c.add.ensures.whole c.add.ensures.seen c.args.session (ap (λ p. p.words) c.store_commit.ensures) c.in-Ok.ensures

pub returns-in-Err : goal.returns-in-Err
returns-in-Err g c = happens _ _ _ _ _ c.self.view_is c.args.me.now c.add-in-Err.new.me _ _ _ c.self.inside.visitor _ _ c.add-in-Err.ensures.added c.add-in-Err.ensures.before c.add-in-Err.ensures.whole c.add-in-Err.ensures.seen c.args.session refl c.in-Err.ensures
