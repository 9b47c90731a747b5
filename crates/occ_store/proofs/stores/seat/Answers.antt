use Rattle.std.proofs.Common.{◌≡◌, ◌+◌, ◌≤◌, [], ◌∷◌, ◌++◌, length, sym, ap, subst, ◌∙◌, rules, arith, length-append}
use Rattle.std.proofs.lemmas.Iterator.Consumers.{YieldsList-turn, YieldsList-end}
use Rattle.std.proofs.lemmas.Iterator.Adapters.{YieldsList-from_vec}
use Rattle.occ_history.specs.History.{FrontView}
use Rattle.occ_store.specs.Frames.{sessions_from, lanes_from, seating}
use Rattle.occ_store.proofs.PartsMade.{own_part, own_lane, session_front, both_fronts, sessions_more, lanes_more, story_more}
use Rattle.occ_store.proofs.stores.seat.Goals as goal

pub split_off-requires-clause-has_parts : goal.split_off-requires-clause-has_parts
split_off-requires-clause-has_parts g c =
    let turn = YieldsList-turn (YieldsList-from_vec {s = c.into_iter-part-iterator.result} c.args.parts.items (search rules) (search rules))
    c.loop-part.yielded c.loop-part.part-iterator c.loop-part.yielded_by c.next.result c.next.new.self c.in-Some.part c.in-Some.is c.next.ensures.steps in
    let below = turn.0 in
    let left = c.loop-part.invariant.6 in
    let all = c.requires.ledger.0 in
    omega arith

pub client_and_lane-fronts-requires : goal.client_and_lane-fronts-requires
client_and_lane-fronts-requires g c =
    let turn = YieldsList-turn (YieldsList-from_vec {s = c.into_iter-part-iterator.result} c.args.parts.items (search rules) (search rules))
    c.loop-part.yielded c.loop-part.part-iterator c.loop-part.yielded_by c.next.result c.next.new.self c.in-Some.part c.in-Some.is c.next.ensures.steps in
    (_, ap (λ (f : FrontView). f.party) (session_front g.N.Name.named c.args.parts.items c.requires.parts (length c.loop-part.yielded) c.in-Some.part turn.0 turn.1 _ _ c.next_session-front.ensures.front c.loop-part.invariant.8))

pub named-session-requires-clause-fronts : goal.named-session-requires-clause-fronts
named-session-requires-clause-fronts g c =
    let turn = YieldsList-turn (YieldsList-from_vec {s = c.into_iter-part-iterator.result} c.args.parts.items (search rules) (search rules))
    c.loop-part.yielded c.loop-part.part-iterator c.loop-part.yielded_by c.next.result c.next.new.self c.in-Some.part c.in-Some.is c.next.ensures.steps in
    both_fronts g.N.Name.named c.args.parts.items c.requires.parts (length c.loop-part.yielded) c.in-Some.part turn.0 turn.1 _ _ _ c.next_session-front.ensures.front c.loop-part.invariant.8 c.client_and_lane-fronts.ensures

pub named-session-requires-clause-part : goal.named-session-requires-clause-part
named-session-requires-clause-part g c =
    let turn = YieldsList-turn (YieldsList-from_vec {s = c.into_iter-part-iterator.result} c.args.parts.items (search rules) (search rules))
    c.loop-part.yielded c.loop-part.part-iterator c.loop-part.yielded_by c.next.result c.next.new.self c.in-Some.part c.in-Some.is c.next.ensures.steps in
    own_part g.N.Name.named c.args.parts.items c.requires.parts (length c.loop-part.yielded) c.in-Some.part turn.0 turn.1

pub named-session-requires-clause-lane : goal.named-session-requires-clause-lane
named-session-requires-clause-lane g c =
    let turn = YieldsList-turn (YieldsList-from_vec {s = c.into_iter-part-iterator.result} c.args.parts.items (search rules) (search rules))
    c.loop-part.yielded c.loop-part.part-iterator c.loop-part.yielded_by c.next.result c.next.new.self c.in-Some.part c.in-Some.is c.next.ensures.steps in
    own_lane g.N.Name.named c.args.parts.items c.requires.parts (length c.loop-part.yielded) c.in-Some.part turn.0 turn.1 c.requires.lanes

pub loop-part-preserved : goal.loop-part-preserved
loop-part-preserved g c =
    let named = g.N.Name.named in
    let turn = YieldsList-turn (YieldsList-from_vec {s = c.into_iter-part-iterator.result} c.args.parts.items (search rules) (search rules))
    c.loop-part.yielded c.loop-part.part-iterator c.loop-part.yielded_by c.next.result c.next.new.self c.in-Some.part c.in-Some.is c.next.ensures.steps in
    let kept = c.loop-part.invariant in
    let more = length-append c.loop-part.yielded (c.in-Some.part ∷ []) in
    let next : named.workers + length c.loop-part.yielded + 1 ≡ named.workers + length (c.loop-part.yielded ++ c.in-Some.part ∷ []) = omega arith in
    let before = kept.6 in
    let none = kept.7 in
    let given = c.split_off.ensures.parts_left in
    let amount = c.split_off.ensures.amount_left in (
      sessions_more named c.args.parts.items c.requires.parts (length c.loop-part.yielded) c.in-Some.part turn.0 turn.1 _ _ _ kept.0 c.named-session.ensures.session c.push_reserved.ensures.items
          ∙ ap (sessions_from named) (sym more),
      lanes_more named c.args.parts.items c.requires.parts (length c.loop-part.yielded) c.in-Some.part turn.0 turn.1 _ _ _ kept.1 c.named-session.ensures.lane c.push_reserved-in-loop-part.ensures.items
          ∙ ap (lanes_from named) (sym more),
      c.push_reserved.ensures.len ∙ ap (λ n. n + 1) kept.2 ∙ sym more,
      c.push_reserved-in-loop-part.ensures.len ∙ ap (λ n. n + 1) kept.3 ∙ sym more,
      subst (λ n. length c.args.parts.items ≤ n) (sym c.push_reserved.ensures.capacity) kept.4,
      subst (λ n. length c.args.parts.items ≤ n) (sym c.push_reserved-in-loop-part.ensures.capacity) kept.5,
      omega arith,
      omega arith,
      story_more _ _ _ kept.8 c.next_session-front.ensures.more ∙ ap seating next,
    )
