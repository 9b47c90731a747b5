use Rattle.std.proofs.Common.{◌≡◌, ◌+◌, ◌≤◌, [], ◌++◌, length, map, sym, ap, subst, ◌∙◌, arith}
use Rattle.std.specs.declared.sync.ledger.Share.{Share}
use Rattle.occ_model.specs.World.{next_place}
use Rattle.occ_store.specs.Lanes.{LaneView}
use Rattle.occ_store.specs.Locked.{Locked, world_of}
use Rattle.occ_store.specs.Accounts.{LineView, AreAllLines, HaveSeen, line_of, held}
use Rattle.occ_store.proofs.AccountLines.{count_complete, all_lines, of_history, of_none}
use Rattle.occ_store.proofs.shared.Shared.account.Goals as goal
use Rattle.occ_store.proofs.shared.Shared.account.Goals.{in-None, in-Some}

pub end_workers-requires-clause-room : goal.end_workers-requires-clause-room
end_workers-requires-clause-room g c =
    let room = c.requires.room in
    omega arith

pub end_lanes-requires-clause-numbered : goal.end_lanes-requires-clause-numbered
end_lanes-requires-clause-numbered g c = (_, (count_complete g.N.Name.named c.args.workers.items c.args.lanes.items c.args.sessions.items c.requires.complete).2)

pub end_lanes-requires-clause-room : goal.end_lanes-requires-clause-room
end_lanes-requires-clause-room g c =
    let room = c.requires.room in
    let count = c.end_workers.ensures.count in
    let same = c.end_workers.ensures.capacity in
    omega arith

pub entered-entered-requires : goal.entered-entered-requires
entered-entered-requires g c =
    let cut = c.requires.cut in
    let all = (count_complete g.N.Name.named c.args.workers.items c.args.lanes.items c.args.sessions.items c.requires.complete).0 in
    let first = c.end_workers.ensures.parts in
    let second = c.end_lanes.ensures.parts in
    let whole = ap (held (λ (s : Share g.row.N.Denot). s.parts)) c.in-Some.is in
    omega arith

pub returns-clause-entered : goal.returns-clause-entered
returns-clause-entered g c =
    let first = c.end_workers.ensures.amount in
    let second = c.end_lanes.ensures.amount in
    elim c.match-parts.branch [
      | in-None w ↦ (let is = w.entered-is in let none = ap (held (λ (s : Share g.row.N.Denot). s.amount)) w.in-None.is in omega arith)
      | in-Some w ↦ (let is = w.entered-is in let told = w.entered-entered.ensures.counted in let whole = ap (held (λ (s : Share g.row.N.Denot). s.amount)) w.in-Some.is in omega arith)
    ]

pub returns-clause-lines : goal.returns-clause-lines
returns-clause-lines g c =
    let own = c.end_lanes.ensures.lines in
    subst (AreAllLines c.args.workers.items c.args.lanes.items c.args.sessions.items) (sym own.1)
    (all_lines c.args.workers.items c.args.lanes.items c.args.sessions.items _ own.0 c.end_workers.ensures.lines own.2)

pub returns-clause-history : goal.returns-clause-history
returns-clause-history g c =
    let seen = c.end_workers.ensures.saw in
    let saw = subst (λ (s : Locked). HaveSeen s.story.log (λ (lane : LaneView). lane.front) c.args.lanes.items) c.end_workers.ensures.same c.end_lanes.ensures.saw in
    let same = c.end_lanes.ensures.same ∙ c.end_workers.ensures.same in
    let workers = c.end_workers.ensures.parts in
    let lanes = c.end_lanes.ensures.parts in
    elim c.match-parts.branch [
      | in-None w ↦ (let none = ap (held (λ (s : Share g.row.N.Denot). s.parts)) w.in-None.is in of_none _ _ _ _ (omega arith) (omega arith) w.entered-is)
      | in-Some w ↦ (let all = ap (λ (s : Locked). next_place (world_of s)) same in let told = w.entered-entered.ensures.begun in let is = w.entered-is in
          of_history _ _ _ _ _ _ c.law.ensures.ran (omega arith) seen saw)
    ]
