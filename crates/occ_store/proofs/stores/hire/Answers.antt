use Rattle.std.proofs.Common.{◌+◌, ◌≤◌, [], ◌∷◌, length, sym, ap, subst, ◌∙◌, rules, arith, length-append}
use Rattle.std.proofs.lemmas.Iterator.Consumers.{YieldsList-turn, YieldsList-end}
use Rattle.std.proofs.lemmas.Iterator.Adapters.{YieldsList-from_vec}
use Rattle.occ_store.specs.Frames.{workers_from, seating}
use Rattle.occ_store.proofs.PartsMade.{own_place, worker_front, workers_more, story_more}
use Rattle.occ_store.proofs.stores.hire.Goals as goal

pub split_off-requires-clause-has_parts : goal.split_off-requires-clause-has_parts
split_off-requires-clause-has_parts g c =
    let turn = YieldsList-turn (YieldsList-from_vec {s = c.into_iter-place-iterator.result} c.args.places.items (search rules) (search rules))
    c.loop-place.yielded c.loop-place.place-iterator c.loop-place.yielded_by c.next.result c.next.new.self c.in-Some.place c.in-Some.is c.next.ensures.steps in
    let below = turn.0 in
    let left = c.loop-place.invariant.3 in
    let all = c.requires.ledger.0 in
    omega arith

pub hired-requires-clause-front : goal.hired-requires-clause-front
hired-requires-clause-front g c =
    let turn = YieldsList-turn (YieldsList-from_vec {s = c.into_iter-place-iterator.result} c.args.places.items (search rules) (search rules))
    c.loop-place.yielded c.loop-place.place-iterator c.loop-place.yielded_by c.next.result c.next.new.self c.in-Some.place c.in-Some.is c.next.ensures.steps in
    worker_front g.N.Name.named c.args.places.items c.requires.places (length c.loop-place.yielded) c.in-Some.place turn.0 turn.1 _ _ c.next_session-front.ensures.front c.loop-place.invariant.5

pub hired-requires-clause-place : goal.hired-requires-clause-place
hired-requires-clause-place g c =
    let turn = YieldsList-turn (YieldsList-from_vec {s = c.into_iter-place-iterator.result} c.args.places.items (search rules) (search rules))
    c.loop-place.yielded c.loop-place.place-iterator c.loop-place.yielded_by c.next.result c.next.new.self c.in-Some.place c.in-Some.is c.next.ensures.steps in
    own_place g.N.Name.named c.args.places.items c.requires.places (length c.loop-place.yielded) c.in-Some.place turn.0 turn.1

pub loop-place-preserved : goal.loop-place-preserved
loop-place-preserved g c =
    let named = g.N.Name.named in
    let turn = YieldsList-turn (YieldsList-from_vec {s = c.into_iter-place-iterator.result} c.args.places.items (search rules) (search rules))
    c.loop-place.yielded c.loop-place.place-iterator c.loop-place.yielded_by c.next.result c.next.new.self c.in-Some.place c.in-Some.is c.next.ensures.steps in
    let kept = c.loop-place.invariant in
    let more = length-append c.loop-place.yielded (c.in-Some.place ∷ []) in
    let before = kept.3 in
    let given = c.split_off.ensures.parts_left in
    let none = kept.4 in
    let amount = c.split_off.ensures.amount_left in (
      workers_more named c.args.places.items c.requires.places (length c.loop-place.yielded) c.in-Some.place turn.0 turn.1 _ _ _ kept.0 c.hired.ensures c.push_reserved.ensures.items
          ∙ ap (workers_from named) (sym more),
      c.push_reserved.ensures.len ∙ ap (λ n. n + 1) kept.1 ∙ sym more,
      subst (λ n. length c.args.places.items ≤ n) (sym c.push_reserved.ensures.capacity) kept.2,
      omega arith,
      omega arith,
      story_more _ _ _ kept.5 c.next_session-front.ensures.more ∙ ap seating (sym more),
    )
