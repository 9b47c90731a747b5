use Rattle.std.proofs.Common.{sym, ◌∙◌}
use Rattle.occ_store.proofs.Observing.{sees_history}
use Rattle.occ_store.proofs.stores.Store.observer.Goals as goal

-- the story that led to the state that the lock lent
pub returns-clause-seen : goal.returns-clause-seen
returns-clause-seen g c =
    sees_history g.N.Name.named _ c.deref.result.now c.deref_mut.result.now (c.deref.ensures ∙ sym c.deref_mut.ensures.value) c.law.ensures.ran (c.of.ensures ∙ c.observer.ensures.front)
