use Rattle.std.proofs.Common.{◌≡◌, sym, ap, subst, ◌∙◌}
use Rattle.occ_core.specs.Totals.{AddUp}
use Rattle.occ_history.specs.History.{FrontView}
use Rattle.occ_store.specs.Counted.{IsCountOf}
use Rattle.occ_store.specs.Locked.{Locked, world_of}
use Rattle.occ_store.proofs.Observing.{nobody_is_here, sees_whole}
use Rattle.occ_store.proofs.stores.Store.counts.Goals as goal

pub show_to-requires : goal.show_to-requires
show_to-requires g c = nobody_is_here _ c.observer.invariant

pub invariant_of-observer : goal.invariant_of-observer
invariant_of-observer g c = ap (λ (f : FrontView). f.party) c.show_to.ensures.seen ∙ c.observer.invariant

-- the state that the lock lent
pub returns-clause-figures : goal.returns-clause-figures
returns-clause-figures g c =
    let same = c.deref.ensures ∙ sym c.deref_mut.ensures.value ∙ sym c.show_to.ensures.same ∙ sym c.deref-2.ensures in
    sees_whole g.N.Name.named _ _ _ c.observer.view_is c.deref.result.now c.deref_mut.result.now c.deref-2.result.now (c.deref.ensures ∙ sym c.deref_mut.ensures.value) (sym c.show_to.ensures.same ∙ sym c.deref-2.ensures) c.law.ensures.ran c.show_to.ensures.seen c.show_to.ensures.before
    (IsCountOf c.counts.result) (c.deref-2.result.now.filed.totals, subst (λ (s : Locked). AddUp s.filed.totals (world_of s)) same c.law.ensures.totals, c.counts.ensures.figures)
