use Rattle.std.proofs.Common.{◌≡◌, ap, ◌∙◌}
use Rattle.occ_sharing.specs.declared.held.Held.{Held}
use Rattle.occ_sharing.specs.Sharing.{Worker}
use Rattle.occ_sharing.proofs.Holdings.{idle_then, held_back, left_in, in_one}
use Rattle.occ_sharing.proofs.workers.Worker.leave.Goals as goal

pub put_back-left-requires-clause-idle : goal.put_back-left-requires-clause-idle
put_back-left-requires-clause-idle g c = idle_then _ _ _ _ (ap (λ (w : Worker). w.settings) c.in_ok-holding.ensures.left) (ap (λ (h : Held _). h.idle.items) c.deref_mut.ensures.value) c.in_ok-holding.ensures.fits.are_idle

pub give-requires : goal.give-requires
give-requires g c = record {
  fits = held_back _ _ _ _ _ _ (ap (λ (w : Worker). w.settings) c.put_back-left.ensures.kept) (ap (λ (w : Worker). w.settings) c.in_ok-holding.ensures.left)
      (ap (λ (h : Held _). h.core.world) c.deref_mut.ensures.value) c.in_ok-holding.ensures.fits.is_of c.put_back-left.ensures.idle;
}

pub returns-clause-leaves : goal.returns-clause-leaves
returns-clause-leaves g c = λ none. in_one _ _ _ _ c.in_ok-holding.holding.leased _ c.in_ok-holding.ensures.fits.is_of c.in_ok-holding.ensures.lawful c.in_ok-holding.ensures.leased c.in_ok-holding.ensures.begins
    c.give.ensures.leaves c.give.ensures.keeps
    (ap (λ (w : Worker). w.settings) c.give.ensures.client ∙ ap (λ (w : Worker). w.settings) c.put_back-left.ensures.kept ∙ ap (λ (w : Worker). w.settings) c.in_ok-holding.ensures.left)
    (ap (λ (w : Worker). w.holdings) c.give.ensures.client ∙ ap (λ (w : Worker). w.holdings) c.put_back-left.ensures.kept ∙ ap (λ (w : Worker). w.holdings) c.in_ok-holding.ensures.left)
    (left_in _ _ _ _ c.put_back-left.result _ _ _ (ap (λ (w : Worker). w.client) c.in_ok-holding.ensures.left) (ap (λ (w : Worker). w.client) c.give.ensures.client)
    (ap (λ (h : Held _). h.core.world) c.deref_mut.ensures.value) c.put_back-left.ensures.ok c.put_back-left.ensures.err c.put_back-left.ensures.memory)
