use Rattle.std.proofs.Common.{◌≡◌, subst, ap, sym, refl, ◌∙◌}
use Rattle.occ_model.specs.World.{World}
use Rattle.occ_types.specs.PlainData.{key_of, end_of}
use Rattle.occ_types.specs.Question.{Span}
use Rattle.occ_client.specs.Clients.{Client, ending}
use Rattle.occ_model.specs.Event.{Folded}
use Rattle.occ_model.specs.Replies.{replied, replied_back}
use Rattle.occ_core.specs.Replies.{ran}
use Rattle.occ_open.specs.Replies.{reading, scanning, forgetting}
use Rattle.occ_sets.specs.Operations.{ops_of}
use Rattle.occ_sharing.specs.declared.held.Held.{Held}
use Rattle.occ_sharing.specs.Sharing.{Worker, IsIdle}
use Rattle.occ_sharing.proofs.Holdings.{is_then, held_after, held_same, in_one, ends_once, last_of, began_in, got_in, scanned_in, abandoned_in, committed_in, ran_in}
use Rattle.occ_sharing.proofs.Kept.{get_keeps, scan_keeps, abandon_keeps, ends_keeps, runs_keeps, checkpoint_keeps}
use Rattle.occ_sharing.proofs.workers.Worker.join.Goals as goal

pub returns-in-Some-clause-joins : goal.returns-in-Some-clause-joins
returns-in-Some-clause-joins g c = λ none. in_one _ _ _ _ c.in_ok-holding.holding.leased _ c.in_ok-holding.ensures.fits.is_of c.in_ok-holding.ensures.lawful c.in_ok-holding.ensures.leased c.in_ok-holding.ensures.begins
    c.give.ensures.leaves c.give.ensures.keeps
    (ap (λ (w : Worker). w.settings) c.give.ensures.client ∙ ap (λ (w : Worker). w.settings) (c.self-in-Some.view_is ∙ c.in_ok-holding.ensures.left))
    (ap (λ (w : Worker). w.holdings) c.give.ensures.client ∙ ap (λ (w : Worker). w.holdings) (c.self-in-Some.view_is ∙ c.in_ok-holding.ensures.left))
    (record {
      ok = last_of _ _ _ _ c.in_ok-holding.ensures.fits.are_idle (sym (ap (λ (h : Held _). h.idle.items) c.deref_mut.ensures.value) ∙ c.in-Some.ensures.items) (ap (λ (w : Worker). w.client) c.give.ensures.client);
      err = tt;
      fault = tt;
      world = ap (λ (h : Held _). h.core.world) c.deref_mut.ensures.value;
    })

pub returns-in-None-clause-joins : goal.returns-in-None-clause-joins
returns-in-None-clause-joins g c = λ none. in_one _ _ _ _ c.in_ok-holding.holding.leased _ c.in_ok-holding.ensures.fits.is_of c.in_ok-holding.ensures.lawful c.in_ok-holding.ensures.leased c.in_ok-holding.ensures.begins
    c.give-in-None.ensures.leaves c.give-in-None.ensures.keeps
    (ap (λ (w : Worker). w.settings) c.give-in-None.ensures.client ∙ ap (λ (w : Worker). w.settings) c.in_ok-holding.ensures.left)
    (ap (λ (w : Worker). w.holdings) c.give-in-None.ensures.client ∙ ap (λ (w : Worker). w.holdings) c.in_ok-holding.ensures.left)
    (record {
      ok = tt;
      err = ap (λ (w : Worker). w.client) c.give-in-None.ensures.client ∙ ap (λ (w : Worker). w.client) c.in_ok-holding.ensures.left;
      fault = refl;
      world = ap (λ (h : Held _). h.core.world) c.deref_mut.ensures.value;
    })
