use Rattle.std.proofs.Common.{◌+◌, ◌≤◌, [], ◌∷◌, length, map, refl, sym, ap, subst, ◌∙◌, rules, arith, length-append}
use Rattle.std.specs.Prelude.{vec_len}
use Rattle.std.proofs.lemmas.List.{map-id, map-append}
use Rattle.std.proofs.lemmas.Iterator.Consumers.{YieldsList-turn, YieldsList-end}
use Rattle.std.proofs.lemmas.Iterator.Adapters.{YieldsList-from_vec}
use Rattle.occ_store.specs.Locked.{Locked}
use Rattle.occ_store.specs.Lanes.{LaneView}
use Rattle.occ_store.specs.Accounts.{HasSeen, HaveSeen, line_of, held}
use Rattle.occ_store.proofs.AccountLines.{walk_begins, both_here, own_room, own_session, walk_on, walk_ends, seen_more, counted_more, measured_more, measured_all}
use Rattle.occ_store.proofs.accounts.end_lanes.Goals as goal

pub loop-lane-init : goal.loop-lane-init
loop-lane-init g c =
    let clients = c.into_iter-clients.ensures.len in
    let sessions = c.args.sessions.ok.0 in
    let same = ap length c.into_iter-clients.ensures.rest in
    let spare = c.into_iter-rooms.ensures.len in
    let rooms = c.args.rooms.ok.0 in
    let all = ap length c.into_iter-rooms.ensures.rest in (
      walk_begins _ _ _ _ _ _ _ c.requires.numbered.1 c.requires.rooms c.into_iter-clients.ensures.rest c.into_iter-rooms.ensures.rest,
      omega arith,
      omega arith,
      omega arith,
      c.requires.room,
      omega arith,
      omega arith,
      tt,
      refl,
    )

pub unreachable-requires : goal.unreachable-requires
unreachable-requires g c =
    let turn = YieldsList-turn (YieldsList-from_vec {s = c.into_iter-lane-iterator.result} c.args.lanes.items (search rules) (search rules))
    c.loop-lane.yielded c.loop-lane.lane-iterator c.loop-lane.yielded_by c.next.result c.next.new.self c.in-Some.lane c.in-Some.is c.next.ensures.steps in
    let some = (both_here _ _ _ _ _ _ _ c.loop-lane.invariant.0 c.in-Some.lane turn.0 turn.1).0 in
    let same = c.loop-lane.invariant.1 in
    let none = c.in_default.ensures.cases.0 in
    omega arith

pub unreachable-requires-in_default-next : goal.unreachable-requires-in_default-next
unreachable-requires-in_default-next g c =
    let turn = YieldsList-turn (YieldsList-from_vec {s = c.into_iter-lane-iterator.result} c.args.lanes.items (search rules) (search rules))
    c.loop-lane.yielded c.loop-lane.lane-iterator c.loop-lane.yielded_by c.next.result c.next.new.self c.in-Some.lane c.in-Some.is c.next.ensures.steps in
    let some = (both_here _ _ _ _ _ _ _ c.loop-lane.invariant.0 c.in-Some.lane turn.0 turn.1).1 in
    let same = c.loop-lane.invariant.2 in
    let none = c.in_default-next.ensures.cases.0 in
    omega arith

pub line_of-line-requires-clause-same : goal.line_of-line-requires-clause-same
line_of-line-requires-clause-same g c =
    let turn = YieldsList-turn (YieldsList-from_vec {s = c.into_iter-lane-iterator.result} c.args.lanes.items (search rules) (search rules))
    c.loop-lane.yielded c.loop-lane.lane-iterator c.loop-lane.yielded_by c.next.result c.next.new.self c.in-Some.lane c.in-Some.is c.next.ensures.steps in
    own_session _ _ _ _ _ _ _ c.loop-lane.invariant.0 c.in-Some.lane turn.0 turn.1 c.in-Some-next.client _ c.in-Some-next-2.room _ c.in-Some-next.ensures.items c.in-Some-next-2.ensures.items

pub line_of-line-requires-clause-room : goal.line_of-line-requires-clause-room
line_of-line-requires-clause-room g c =
    let turn = YieldsList-turn (YieldsList-from_vec {s = c.into_iter-lane-iterator.result} c.args.lanes.items (search rules) (search rules))
    c.loop-lane.yielded c.loop-lane.lane-iterator c.loop-lane.yielded_by c.next.result c.next.new.self c.in-Some.lane c.in-Some.is c.next.ensures.steps in
    own_room _ _ _ _ _ _ _ c.loop-lane.invariant.0 c.in-Some.lane turn.0 turn.1 c.in-Some-next.client _ c.in-Some-next-2.room _ c.in-Some-next.ensures.items c.in-Some-next-2.ensures.items

pub push_reserved-requires : goal.push_reserved-requires
push_reserved-requires g c =
    let turn = YieldsList-turn (YieldsList-from_vec {s = c.into_iter-lane-iterator.result} c.args.lanes.items (search rules) (search rules))
    c.loop-lane.yielded c.loop-lane.lane-iterator c.loop-lane.yielded_by c.next.result c.next.new.self c.in-Some.lane c.in-Some.is c.next.ensures.steps in
    let below = turn.0 in
    let count = c.loop-lane.invariant.3 in
    let room = c.loop-lane.invariant.4 in
    omega arith

pub loop-lane-preserved : goal.loop-lane-preserved
loop-lane-preserved g c =
    let turn = YieldsList-turn (YieldsList-from_vec {s = c.into_iter-lane-iterator.result} c.args.lanes.items (search rules) (search rules))
    c.loop-lane.yielded c.loop-lane.lane-iterator c.loop-lane.yielded_by c.next.result c.next.new.self c.in-Some.lane c.in-Some.is c.next.ensures.steps in
    let kept = c.loop-lane.invariant in
    let clients = kept.1 in
    let one = c.in-Some-next.ensures.cases.1 in
    let first = ap length c.in-Some-next.ensures.items in
    let rooms = kept.2 in
    let two = c.in-Some-next-2.ensures.cases.1 in
    let second = ap length c.in-Some-next-2.ensures.items in
    let more = length-append c.loop-lane.yielded (c.in-Some.lane ∷ []) in (
      walk_on _ _ _ _ _ _ _ c.loop-lane.invariant.0 c.in-Some.lane turn.0 turn.1 c.in-Some-next.client _ c.in-Some-next-2.room _ c.in-Some-next.ensures.items c.in-Some-next-2.ensures.items
          (line_of {Z = g.row.A.Denot} c.line_of-line.result.0) _ c.line_of-line.ensures.line (ap (map (line_of {Z = g.row.A.Denot})) c.push_reserved.ensures.items ∙ map-append (line_of {Z = g.row.A.Denot}) _ _),
      omega arith,
      omega arith,
      (let len = c.push_reserved.ensures.len in let so = kept.3 in omega arith),
      subst (λ n. vec_len c.args.lines.now + length c.args.lanes.items ≤ n) (sym c.push_reserved.ensures.capacity) kept.4,
      counted_more _ _ _ _ c.loop-lane.yielded c.in-Some.lane c.merge.ensures.parts c.line_of-line.ensures.part.0 kept.5,
      measured_more (λ (lane : LaneView). lane.entered) _ _ _ _ c.loop-lane.yielded c.in-Some.lane c.merge.ensures.amount c.line_of-line.ensures.part.1 kept.6,
      seen_more (λ (lane : LaneView). lane.front) _ c.loop-lane.yielded c.in-Some.lane kept.7 (subst (λ (s : Locked). HasSeen s.story.log c.in-Some.lane.front) kept.8 c.line_of-line.ensures.saw),
      c.line_of-line.ensures.same ∙ kept.8,
    )

pub returns-clause-lines : goal.returns-clause-lines
returns-clause-lines g c =
    let end = YieldsList-end (YieldsList-from_vec {s = c.into_iter-lane-iterator.result} c.args.lanes.items (search rules) (search rules))
    c.loop-lane.yielded c.loop-lane.lane-iterator c.loop-lane.yielded_by c.next.result c.next.new.self c.in-None.is c.next.ensures.steps in
    walk_ends _ _ _ _ _ _ _ c.loop-lane.invariant.0 (sym (map-id c.loop-lane.yielded) ∙ end.0)

pub returns-clause-amount : goal.returns-clause-amount
returns-clause-amount g c =
    let end = YieldsList-end (YieldsList-from_vec {s = c.into_iter-lane-iterator.result} c.args.lanes.items (search rules) (search rules))
    c.loop-lane.yielded c.loop-lane.lane-iterator c.loop-lane.yielded_by c.next.result c.next.new.self c.in-None.is c.next.ensures.steps in
    measured_all (λ (lane : LaneView). lane.entered) _ _ _ _ c.loop-lane.invariant.6 (sym (map-id c.loop-lane.yielded) ∙ end.0)

pub returns-clause-parts : goal.returns-clause-parts
returns-clause-parts g c =
    let end = YieldsList-end (YieldsList-from_vec {s = c.into_iter-lane-iterator.result} c.args.lanes.items (search rules) (search rules))
    c.loop-lane.yielded c.loop-lane.lane-iterator c.loop-lane.yielded_by c.next.result c.next.new.self c.in-None.is c.next.ensures.steps in
    let count = end.1 in
    let so = c.loop-lane.invariant.5 in
    omega arith

pub returns-clause-saw : goal.returns-clause-saw
returns-clause-saw g c =
    let end = YieldsList-end (YieldsList-from_vec {s = c.into_iter-lane-iterator.result} c.args.lanes.items (search rules) (search rules))
    c.loop-lane.yielded c.loop-lane.lane-iterator c.loop-lane.yielded_by c.next.result c.next.new.self c.in-None.is c.next.ensures.steps in
    subst (HaveSeen c.args.shared.now.story.log (λ (lane : LaneView). lane.front)) (sym (map-id c.loop-lane.yielded) ∙ end.0) c.loop-lane.invariant.7

pub returns-clause-same : goal.returns-clause-same
returns-clause-same g c = c.loop-lane.invariant.8
