use Rattle.std.proofs.Common.{◌≡◌, option_map, sym, ap, ◌∙◌}
use Rattle.occ_model.specs.Log.{LogRow}
use Rattle.occ_model.specs.Poll.{row_numbered}
use Rattle.occ_model.specs.World.{World}
use Rattle.occ_history.specs.History.{FrontView}
use Rattle.occ_store.specs.Locked.{told_standing}
use Rattle.occ_store.proofs.Observing.{nobody_is_here, sees_whole}
use Rattle.occ_store.proofs.stores.Store.row.Goals as goal

pub show_to-requires : goal.show_to-requires
show_to-requires g c = nobody_is_here _ c.observer.invariant

pub invariant_of-observer : goal.invariant_of-observer
invariant_of-observer g c = ap (λ (f : FrontView). f.party) c.show_to.ensures.seen ∙ c.observer.invariant

-- the state that the lock lent
pub returns : goal.returns
returns g c =
    sees_whole g.N.Name.named _ _ _ c.observer.view_is c.deref.result.now c.deref_mut.result.now c.deref-2.result.now (c.deref.ensures ∙ sym c.deref_mut.ensures.value) (sym c.show_to.ensures.same ∙ sym c.deref-2.ensures) c.law.ensures.ran c.show_to.ensures.seen c.show_to.ensures.before
    (λ (w : World). c.row.result ≡ option_map (λ (row : LogRow). told_standing row.standing) (row_numbered c.args.session c.args.number w.log)) c.row.ensures
