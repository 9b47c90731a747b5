use Rattle.std.proofs.Common.{◌≡◌, ◌+◌, length, refl, sym, ap, ◌∙◌, arith, rules}
use Rattle.std.specs.Arc.{arc_value}
use Rattle.std.proofs.lemmas.List.{length_push}
use Rattle.crossbeam_queue.specs.Passes.{view}
use Rattle.occ_queue.specs.Lanes.{Known}
use Rattle.occ_queue.proofs.Passing.{joins, whole, rests}
use Rattle.occ_queue.proofs.TakenOut.{known_first, grown, known_room, less_left, known_last}
use Rattle.occ_queue.proofs.draining.drain.Goals as goal

pub absorb-requires-clause-queue : goal.absorb-requires-clause-queue
absorb-requires-clause-queue g c =
    let here : c.deref.result.now ≡ arc_value c.sender.inside.line = search rules in
    let mine = c.sender.invariant.0.0 ∙ ap (λ q. q.table.shared.table_id) (sym here) in (
      (mine, c.sender.invariant.0.1),
      (ap (λ (k : Known). k.lane) c.receiver.view_is ∙ sym c.requires.lane ∙ sym (ap (λ (k : Known). k.lane) c.sender.view_is) ∙ mine, c.receiver.invariant.0.1),
    )

pub absorb-requires-clause-rule : goal.absorb-requires-clause-rule
absorb-requires-clause-rule g c = joins _ _ _ _ c.sender.invariant.2.0 c.receiver.invariant.1.1

pub loop-item-init : goal.loop-item-init
loop-item-init g c =
    let same = c.absorb.ensures.queue in
    let mine = c.sender.invariant.0 in (
      (same.0 ∙ mine.0, same.2 ∙ mine.1),
      known_first (view c.sender.inside.pass) (view c.receiver.inside.pass) _ _ _ _ c.sender.invariant.2.0 c.receiver.invariant.1.1 (ap (λ (k : Known). k.pushed) c.sender.view_is) (ap (λ (k : Known). k.taken) c.receiver.view_is) c.requires.empty.0 c.absorb.ensures.rule,
      refl,
      c.requires.empty.1 ∙ sym (ap length c.requires.empty.0),
    )

pub pop_as-requires-clause-rule : goal.pop_as-requires-clause-rule
pop_as-requires-clause-rule g c =
    let known = c.loop-item.invariant.1 in
    (rests _ _ known.0 known.1, whole _ _ known.0 known.1)

pub push_reserved-requires : goal.push_reserved-requires
push_reserved-requires g c =
    let below = known_room (view c.loop-item.pass) _ _ _ _ c.loop-item.invariant.1 c.in-Some.ensures.rule.1 in
    let room = c.requires.room in
    let same = c.loop-item.invariant.2 in
    let count = c.loop-item.invariant.3 in
    omega arith

pub loop-item-preserved : goal.loop-item-preserved
loop-item-preserved g c =
    let same = c.in-Some.ensures.queue in
    let before = c.loop-item.invariant in (
      (same.0 ∙ before.0.0, same.2 ∙ before.0.1),
      grown _ _ _ _ _ _ _ before.1 c.in-Some.ensures.rule.0 c.push_reserved.ensures.items,
      c.push_reserved.ensures.capacity ∙ before.2,
      c.push_reserved.ensures.len ∙ ap (λ n. n + 1) before.3 ∙ sym (ap length c.push_reserved.ensures.items ∙ length_push _ _),
    )

pub loop-item-smaller : goal.loop-item-smaller
loop-item-smaller g c = less_left _ _ _ c.in-Some.ensures.rule.0 c.in-Some.ensures.rule.1

pub returns : goal.returns
returns g c = known_last (view c.loop-item.pass) _ _ _ c.loop-item.invariant.1 c.in_default.ensures.rule.1
