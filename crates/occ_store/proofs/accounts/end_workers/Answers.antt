use Rattle.std.proofs.Common.{◌≡◌, ◌+◌, ◌≤◌, [], ◌∷◌, ◌++◌, length, map, refl, sym, ap, subst, ◌∙◌, rules, arith, length-append}
use Rattle.std.proofs.lemmas.List.{map-id, map-append}
use Rattle.std.proofs.lemmas.Iterator.Consumers.{YieldsList-turn, YieldsList-end}
use Rattle.std.proofs.lemmas.Iterator.Adapters.{YieldsList-from_vec}
use Rattle.occ_store.specs.Locked.{Locked}
use Rattle.occ_store.specs.Workers.{WorkerView}
use Rattle.occ_store.specs.Accounts.{LineView, AreAllLines, HasSeen, HaveSeen, line_of}
use Rattle.occ_store.proofs.AccountLines.{worker_lines_more, worker_lines_end, seen_more, counted_more, measured_more, measured_all}
use Rattle.occ_store.proofs.accounts.end_workers.Goals as goal

pub loop-worker-init : goal.loop-worker-init
loop-worker-init g c = (
  subst (AreAllLines [] [] []) (sym (ap (map (line_of {Z = g.row.A.Denot})) c.requires.empty.0)) tt,
  c.requires.empty.1,
  refl,
  omega arith,
  omega arith,
  tt,
  refl,
)

pub push_reserved-requires : goal.push_reserved-requires
push_reserved-requires g c =
    let turn = YieldsList-turn (YieldsList-from_vec {s = c.into_iter-worker-iterator.result} c.args.workers.items (search rules) (search rules))
    c.loop-worker.yielded c.loop-worker.worker-iterator c.loop-worker.yielded_by c.next.result c.next.new.self c.in-Some.worker c.in-Some.is c.next.ensures.steps in
    let below = turn.0 in
    let count = c.loop-worker.invariant.1 in
    let same = c.loop-worker.invariant.2 in
    let room = c.requires.room in
    omega arith

pub loop-worker-preserved : goal.loop-worker-preserved
loop-worker-preserved g c =
    let kept = c.loop-worker.invariant in
    let more = length-append c.loop-worker.yielded (c.in-Some.worker ∷ []) in (
      subst (AreAllLines (c.loop-worker.yielded ++ c.in-Some.worker ∷ []) [] []) (sym (ap (map (line_of {Z = g.row.A.Denot})) c.push_reserved.ensures.items ∙ map-append (line_of {Z = g.row.A.Denot}) _ _))
          (worker_lines_more c.loop-worker.yielded _ c.in-Some.worker (line_of {Z = g.row.A.Denot} c.worker_line-line.result.0) kept.0 c.worker_line-line.ensures.line),
      c.push_reserved.ensures.len ∙ ap (λ n. n + 1) kept.1 ∙ sym more,
      c.push_reserved.ensures.capacity ∙ kept.2,
      counted_more _ _ _ _ c.loop-worker.yielded c.in-Some.worker c.merge.ensures.parts c.worker_line-line.ensures.part.0 kept.3,
      measured_more (λ (worker : WorkerView). worker.entered) _ _ _ _ c.loop-worker.yielded c.in-Some.worker c.merge.ensures.amount c.worker_line-line.ensures.part.1 kept.4,
      seen_more (λ (worker : WorkerView). worker.front) _ c.loop-worker.yielded c.in-Some.worker kept.5 (subst (λ (s : Locked). HasSeen s.story.log c.in-Some.worker.front) kept.6 c.worker_line-line.ensures.saw),
      c.worker_line-line.ensures.same ∙ kept.6,
    )

pub returns-clause-lines : goal.returns-clause-lines
returns-clause-lines g c =
    let end = YieldsList-end (YieldsList-from_vec {s = c.into_iter-worker-iterator.result} c.args.workers.items (search rules) (search rules))
    c.loop-worker.yielded c.loop-worker.worker-iterator c.loop-worker.yielded_by c.next.result c.next.new.self c.in-None.is c.next.ensures.steps in
    worker_lines_end c.args.workers.items _ _ c.loop-worker.invariant.0 (sym (map-id c.loop-worker.yielded) ∙ end.0)

pub returns-clause-amount : goal.returns-clause-amount
returns-clause-amount g c =
    let end = YieldsList-end (YieldsList-from_vec {s = c.into_iter-worker-iterator.result} c.args.workers.items (search rules) (search rules))
    c.loop-worker.yielded c.loop-worker.worker-iterator c.loop-worker.yielded_by c.next.result c.next.new.self c.in-None.is c.next.ensures.steps in
    measured_all (λ (worker : WorkerView). worker.entered) _ _ _ _ c.loop-worker.invariant.4 (sym (map-id c.loop-worker.yielded) ∙ end.0)

pub returns-clause-count : goal.returns-clause-count
returns-clause-count g c =
    let end = YieldsList-end (YieldsList-from_vec {s = c.into_iter-worker-iterator.result} c.args.workers.items (search rules) (search rules))
    c.loop-worker.yielded c.loop-worker.worker-iterator c.loop-worker.yielded_by c.next.result c.next.new.self c.in-None.is c.next.ensures.steps in
    c.loop-worker.invariant.1 ∙ end.1

pub returns-clause-parts : goal.returns-clause-parts
returns-clause-parts g c =
    let end = YieldsList-end (YieldsList-from_vec {s = c.into_iter-worker-iterator.result} c.args.workers.items (search rules) (search rules))
    c.loop-worker.yielded c.loop-worker.worker-iterator c.loop-worker.yielded_by c.next.result c.next.new.self c.in-None.is c.next.ensures.steps in
    let count = end.1 in
    let so = c.loop-worker.invariant.3 in
    omega arith

pub returns-clause-saw : goal.returns-clause-saw
returns-clause-saw g c =
    let end = YieldsList-end (YieldsList-from_vec {s = c.into_iter-worker-iterator.result} c.args.workers.items (search rules) (search rules))
    c.loop-worker.yielded c.loop-worker.worker-iterator c.loop-worker.yielded_by c.next.result c.next.new.self c.in-None.is c.next.ensures.steps in
    subst (HaveSeen c.args.shared.now.story.log (λ (worker : WorkerView). worker.front)) (sym (map-id c.loop-worker.yielded) ∙ end.0) c.loop-worker.invariant.5

pub returns-clause-same : goal.returns-clause-same
returns-clause-same g c = c.loop-worker.invariant.6
