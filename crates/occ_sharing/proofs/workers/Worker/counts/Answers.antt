use Rattle.std.proofs.Common.{◌≡◌, ap, sym, refl, ◌∙◌}
use Rattle.occ_model.specs.World.{World}
use Rattle.occ_types.specs.PlainData.{key_of, end_of}
use Rattle.occ_types.specs.Question.{Span}
use Rattle.occ_client.specs.Clients.{Client, ending}
use Rattle.occ_model.specs.Event.{Folded, Checkpoint}
use Rattle.occ_model.specs.Replies.{replied, replied_back}
use Rattle.occ_core.specs.Replies.{ran}
use Rattle.occ_open.specs.Replies.{reading, scanning, forgetting}
use Rattle.occ_sets.specs.Operations.{ops_of}
use Rattle.occ_sharing.specs.declared.held.Held.{Held}
use Rattle.occ_sharing.specs.Sharing.{Worker}
use Rattle.occ_sharing.proofs.Holdings.{is_then, held_after, held_same, in_one, ends_once, mapped, began_in, got_in, scanned_in, abandoned_in, committed_in, ran_in, stepped}
use Rattle.occ_sharing.proofs.Kept.{get_keeps, scan_keeps, abandon_keeps, ends_keeps, runs_keeps, checkpoint_keeps}
use Rattle.std.proofs.Common.{List, length}
use Rattle.occ_log.specs.Rows.{log_row_of}
use Rattle.occ_model.specs.Log.{LogRow as PlainRow}
use Rattle.occ_sharing.proofs.workers.Worker.counts.Goals as goal

pub give-requires : goal.give-requires
give-requires g c = record { fits = held_same _ _ _ _ (ap (λ (w : Worker). w.settings) c.in_ok-holding.ensures.left) c.in_ok-holding.ensures.fits }

pub returns : goal.returns
returns g c = in_one _ _ _ _ c.in_ok-holding.holding.leased _ c.in_ok-holding.ensures.fits.is_of c.in_ok-holding.ensures.lawful c.in_ok-holding.ensures.leased c.in_ok-holding.ensures.begins
    c.give.ensures.leaves c.give.ensures.keeps
    (ap (λ (w : Worker). w.settings) c.give.ensures.client ∙ ap (λ (w : Worker). w.settings) c.in_ok-holding.ensures.left)
    (ap (λ (w : Worker). w.holdings) c.give.ensures.client ∙ ap (λ (w : Worker). w.holdings) c.in_ok-holding.ensures.left)
    (refl, (ap (λ (w : Worker). w.client) c.give.ensures.client ∙ ap (λ (w : Worker). w.client) c.in_ok-holding.ensures.left), c.tnc.ensures ∙ ap (λ (h : Held _). h.core.world.counter) c.deref.ensures, sym (mapped log_row_of c.log.result.now) ∙ ap (λ (l : List PlainRow). length l) (c.log.ensures ∙ ap (λ (h : Held _). h.core.world.log) c.deref-2.ensures))
