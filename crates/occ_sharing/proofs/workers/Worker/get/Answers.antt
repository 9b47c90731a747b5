use Rattle.std.proofs.Common.{◌≡◌, ap, sym, refl, ◌∙◌}
use Rattle.occ_model.specs.World.{World}
use Rattle.occ_types.specs.PlainData.{key_of, end_of}
use Rattle.occ_types.specs.Question.{Span}
use Rattle.occ_client.specs.Clients.{Client, ending}
use Rattle.occ_model.specs.Event.{Folded}
use Rattle.occ_model.specs.Replies.{replied, replied_back}
use Rattle.occ_core.specs.Replies.{ran}
use Rattle.occ_open.specs.Replies.{reading, scanning, forgetting}
use Rattle.occ_sets.specs.Operations.{ops_of}
use Rattle.occ_sharing.specs.declared.held.Held.{Held}
use Rattle.occ_sharing.specs.Sharing.{Worker}
use Rattle.occ_sharing.proofs.Holdings.{is_then, held_after, held_same, in_one, ends_once, began_in, got_in, scanned_in, abandoned_in, committed_in, ran_in}
use Rattle.occ_sharing.proofs.Kept.{get_keeps, scan_keeps, abandon_keeps, ends_keeps, runs_keeps, checkpoint_keeps}
use Rattle.occ_sharing.proofs.workers.Worker.get.Goals as goal

pub give-requires : goal.give-requires
give-requires g c = record {
  fits = held_after _ _ _ _ _ (ap (λ (w : Worker). w.settings) (c.self.view_is ∙ c.in_ok-holding.ensures.left)) c.in_ok-holding.ensures.fits.are_idle (ap (λ (h : Held _). h.idle.items) c.deref_mut.ensures.value)
      (get_keeps _ _ (is_then _ _ _ (ap (λ (h : Held _). h.core.world) c.deref_mut.ensures.value) c.in_ok-holding.ensures.fits.is_of) _ c.self.inside.client.session (c.args.table, key_of c.args.key.now) c.self.inside.client.current (reading c.get-row.result) _ c.get-row.ensures.read);
}

pub returns : goal.returns
returns g c = in_one _ _ _ _ c.in_ok-holding.holding.leased _ c.in_ok-holding.ensures.fits.is_of c.in_ok-holding.ensures.lawful c.in_ok-holding.ensures.leased c.in_ok-holding.ensures.begins
    c.give.ensures.leaves c.give.ensures.keeps
    (ap (λ (w : Worker). w.settings) c.give.ensures.client ∙ ap (λ (w : Worker). w.settings) (c.self.view_is ∙ c.in_ok-holding.ensures.left))
    (ap (λ (w : Worker). w.holdings) c.give.ensures.client ∙ ap (λ (w : Worker). w.holdings) (c.self.view_is ∙ c.in_ok-holding.ensures.left))
    (got_in _ _ _ _ _ _ (ap (λ (w : Worker). w.client) (c.self.view_is ∙ c.in_ok-holding.ensures.left)) (ap (λ (w : Worker). w.client) c.give.ensures.client) (ap (λ (h : Held _). h.core.world) c.deref_mut.ensures.value) (c.args.table, key_of c.args.key.now) (reading c.get-row.result) _ c.get-row.ensures.kept c.get-row.ensures.read)
