use Rattle.std.proofs.Common.{◌≡◌, sym, ap, subst, ◌∙◌}
use Rattle.occ_model.specs.Event.{Checkpoint, Folded}
use Rattle.occ_model.specs.Replies.{replied}
use Rattle.occ_model.specs.Step.{Run}
use Rattle.occ_history.specs.History.{FrontView}
use Rattle.occ_store.specs.Names.{opened_as}
use Rattle.occ_store.specs.Locked.{Locked, world_of}
use Rattle.occ_store.specs.Standing.{StandsIn}
use Rattle.occ_store.proofs.Histories.{tells_stands}
use Rattle.occ_store.proofs.Observing.{nobody_is_here}
use Rattle.occ_store.proofs.stores.Store.checkpoint.Goals as goal

pub checkpoint-requires : goal.checkpoint-requires
checkpoint-requires g c = record { here = nobody_is_here _ c.observer.invariant }

pub invariant_of-observer : goal.invariant_of-observer
invariant_of-observer g c = ap (λ (f : FrontView). f.party) (c.checkpoint.ensures 0).2.seen ∙ c.observer.invariant

-- it stands in the history that led to the state that the lock lent
pub returns : goal.returns
returns g c =
    let same = c.deref.ensures ∙ sym c.deref_mut.ensures.value in
    subst (λ (f : FrontView). StandsIn g.N.Name.named f Checkpoint (replied Folded c.checkpoint.result) c.checkpoint.new.me) c.observer.view_is
    (tells_stands g.N.Name.named _ _ c.deref_mut.result.now c.checkpoint.new.self _ _ (subst (λ (s : Locked). Run (opened_as g.N.Name.named) s.story.log (world_of s)) same c.law.ensures.ran) (c.checkpoint.ensures 0).2)
