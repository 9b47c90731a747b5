use Rattle.std.proofs.Common.{◌<◌, [], ◌∷◌, ◌++◌, length, ap, ◌∙◌, arith}
use Rattle.occ_log.specs.Logs.{row_at}
use Rattle.occ_core.proofs.Counting.{share_found, share_skipped}
use Rattle.occ_core.proofs.actives.with_active.Goals as goal
use Rattle.occ_core.proofs.actives.with_active.Goals.{in-Some+in_ok-clone+in_ok-push, in_default}

pub loop-place-preserved : goal.loop-place-preserved
loop-place-preserved g c =
    let less : c.loop-place.place < length c.args.sessions.now = omega arith in
    elim c.match-active_at.branch [
      | in-Some+in_ok-clone+in_ok-push w ↦
          share_found (row_at c.args.log.now) c.args.sessions.now c.loop-place.place c.loop-place.opponents.items c.match-active_at.opponents.items w.in-Some.writes.now less w.in-Some.ensures
          (ap (λ v. v.items) w.opponents-is ∙ w.in_ok-push.ensures.items ∙ ap (λ x. c.loop-place.opponents.items ++ x ∷ []) w.in_ok-clone.ensures.cases) _ c.loop-place.invariant
      | in_default w ↦
          share_skipped (row_at c.args.log.now) c.args.sessions.now c.loop-place.place c.loop-place.opponents.items c.match-active_at.opponents.items less w.in_default.ensures (ap (λ v. v.items) w.opponents-is) _ c.loop-place.invariant
    ]
