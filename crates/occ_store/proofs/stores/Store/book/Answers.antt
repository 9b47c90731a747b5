use Rattle.std.proofs.Common.{◌≡◌, sym, ap, ◌∙◌}
use Rattle.occ_history.specs.History.{FrontView}
use Rattle.occ_store.specs.Books.{IsBookOf}
use Rattle.occ_store.proofs.Observing.{nobody_is_here, sees_so}
use Rattle.occ_store.proofs.stores.Store.book.Goals as goal

pub show_to-requires : goal.show_to-requires
show_to-requires g c = nobody_is_here _ c.observer.invariant

pub invariant_of-observer : goal.invariant_of-observer
invariant_of-observer g c = ap (λ (f : FrontView). f.party) c.show_to.ensures.seen ∙ c.observer.invariant

-- the state that the lock lent
pub returns-clause-shows : goal.returns-clause-shows
returns-clause-shows g c =
    sees_so g.N.Name.named _ _ _ c.observer.view_is c.deref.result.now c.deref_mut.result.now c.deref-2.result.now (c.deref.ensures ∙ sym c.deref_mut.ensures.value) (sym c.show_to.ensures.same ∙ sym c.deref-2.ensures) c.law.ensures.ran c.show_to.ensures.seen c.show_to.ensures.before
    IsBookOf c.book.result c.book.ensures.shows
