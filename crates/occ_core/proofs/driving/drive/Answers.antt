use Rattle.std.proofs.Common.{◌+◌, ◌≤◌, [], ◌∷◌, ◌++◌, length, sym, ap, subst, ◌∙◌, rules, map-id}
use Rattle.std.proofs.lemmas.List.{length_push}
use Rattle.std.proofs.lemmas.Iterator.Consumers.{YieldsList-end}
use Rattle.std.proofs.lemmas.Iterator.Adapters.{YieldsList-from_vec}
use Rattle.occ_core.specs.Runs.{Runs}
use Rattle.occ_core.proofs.Replied.{runs_more, run_of}
use Rattle.occ_core.proofs.driving.drive.Goals as goal

pub loop-step-preserved : goal.loop-step-preserved
loop-step-preserved g c =
    let kept = c.loop-step.invariant in (
      subst (λ rs. Runs c.args.core.now (c.loop-step.yielded ++ c.in-Some.step ∷ []) rs c.take.new.self) (sym c.push_reserved.ensures.items)
          (runs_more c.args.core.now c.loop-step.core c.take.new.self c.loop-step.yielded c.loop-step.replies.items c.in-Some.step c.take.result kept.0 c.take.ensures),
      c.push_reserved.ensures.len ∙ ap (λ n. n + 1) kept.1 ∙ sym (length_push c.loop-step.yielded c.in-Some.step),
      subst (λ n. length c.args.steps.items ≤ n) (sym c.push_reserved.ensures.capacity) kept.2,
    )

pub returns-clause-ok : goal.returns-clause-ok
returns-clause-ok g c =
    let end = YieldsList-end (YieldsList-from_vec {s = c.into_iter-step-iterator.result} c.args.steps.items (search rules) (search rules))
    c.loop-step.yielded c.loop-step.step-iterator c.loop-step.yielded_by c.next.result c.next.new.self c.in-None.is c.next.ensures.steps in
    subst (λ ss. Runs c.args.core.now ss c.loop-step.replies.items c.loop-step.core) (sym (map-id c.loop-step.yielded) ∙ end.0) c.loop-step.invariant.0

pub returns-clause-run : goal.returns-clause-run
returns-clause-run g c = run_of c.args.core.now c.loop-step.core c.loop-step.yielded c.loop-step.replies.items c.loop-step.invariant.0
