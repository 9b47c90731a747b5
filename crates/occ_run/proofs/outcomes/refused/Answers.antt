use Rattle.std.proofs.Common.{length, ◌+◌, refl, ap, subst, ◌∙◌, length-append}
use Rattle.occ_store.specs.Locked.{Locked}
use Rattle.occ_run.specs.Clients.{PlayedIn}
use Rattle.occ_run.proofs.Playing.{all_so_far, none_yet}
use Rattle.occ_run.proofs.outcomes.refused.Goals as goal

pub loop-place-init : goal.loop-place-init
loop-place-init g c = record { many = ap length c.in_ok-counts.ensures.items; played = none_yet g.N.Name.named _ _ _ _ c.in_ok-counts.ensures.items; same = refl }

pub loop-place-preserved : goal.loop-place-preserved
loop-place-preserved g c =
    let so_far = c.loop-place.invariant in record {
      many = ap length c.in_ok-push.ensures.items ∙ length-append _ _ ∙ ap (λ n. n + 1) so_far.many;
      played = all_so_far g.N.Name.named _ _ _ _ _ _ c.loop-place.place c.in_ok-push.ensures.items so_far.many so_far.played
          (subst (λ (s : Locked). PlayedIn g.N.Name.named g.L.Load.retries g.L.Load.plans s.story.log (c.loop-place.place + 1) c.in-Some.count) so_far.same c.in-Some.ensures.played);
      same = c.in-Some.ensures.same ∙ so_far.same;
    }
