use Rattle.std.proofs.Common.{arith}
use Rattle.occ_store.specs.declared.validators.Turn.TheVariants as turns
use Rattle.occ_store.proofs.Rounds.{all_set, over_unmarked, over_marked, so_unmarked, so_marked, met_still, met_marked, not_marked, tells_none}
use Rattle.occ_store.specs.Serving.{HasEnded}
use Rattle.occ_store.proofs.validators.Group.serve_place.Goals as goal

pub returns-in-Moved-clause-served : goal.returns-in-Moved-clause-served
returns-in-Moved-clause-served g c = all_set _ _ _ _ c.requires.there c.index_mut.ensures.value c.serve_lane.ensures.served

pub returns-in-Moved-clause-ended : goal.returns-in-Moved-clause-ended
returns-in-Moved-clause-ended g c =
    so_unmarked (HasEnded g.N.Name.named (g.G.Gate.may_stop c.args.gate.now)) c.args.over.now.items c.args.self.now.lanes.items c.args.place c.serve_lane.new.lane
    (not_marked c.args.over.now.items c.args.place c.index.result.now c.index.ensures c.if-index.false) c.requires.ended

pub returns-in-Moved-clause-met : goal.returns-in-Moved-clause-met
returns-in-Moved-clause-met g c =
    met_still g.N.Name.named (g.G.Gate.may_stop c.args.gate.now) c.args.over.now.items c.args.self.now.lanes.items c.args.place c.serve_lane.new.lane
    (not_marked c.args.over.now.items c.args.place c.index.result.now c.index.ensures c.if-index.false) c.args.self.now.fault c.serve_lane.new.fault
    (tells_none c.serve_lane.result turns.Moved turns.Over _ _ (λ e. cc e) c.in-Moved.is c.serve_lane.ensures.still) c.requires.met

pub returns-in-Waits-clause-served : goal.returns-in-Waits-clause-served
returns-in-Waits-clause-served g c = all_set _ _ _ _ c.requires.there c.index_mut.ensures.value c.serve_lane.ensures.served

pub returns-in-Waits-clause-ended : goal.returns-in-Waits-clause-ended
returns-in-Waits-clause-ended g c =
    so_unmarked (HasEnded g.N.Name.named (g.G.Gate.may_stop c.args.gate.now)) c.args.over.now.items c.args.self.now.lanes.items c.args.place c.serve_lane.new.lane
    (not_marked c.args.over.now.items c.args.place c.index.result.now c.index.ensures c.if-index.false) c.requires.ended

pub returns-in-Waits-clause-met : goal.returns-in-Waits-clause-met
returns-in-Waits-clause-met g c =
    met_still g.N.Name.named (g.G.Gate.may_stop c.args.gate.now) c.args.over.now.items c.args.self.now.lanes.items c.args.place c.serve_lane.new.lane
    (not_marked c.args.over.now.items c.args.place c.index.result.now c.index.ensures c.if-index.false) c.args.self.now.fault c.serve_lane.new.fault
    (tells_none c.serve_lane.result turns.Waits turns.Over _ _ (λ e. cc e) c.in-Waits.is c.serve_lane.ensures.still) c.requires.met

pub returns-in-Over-clause-served : goal.returns-in-Over-clause-served
returns-in-Over-clause-served g c = all_set _ _ _ _ c.requires.there c.index_mut.ensures.value c.serve_lane.ensures.served

pub returns-in-Over-clause-over : goal.returns-in-Over-clause-over
returns-in-Over-clause-over g c = λ whole.
    over_marked (g.G.Gate.may_stop c.args.gate.now) c.args.over.now.items c.args.self.now.lanes.items c.args.place c.serve_lane.new.lane c.requires.there
    (c.serve_lane.ensures.over c.in-Over.is whole) (c.requires.over (c.serve_lane.ensures.first whole))

pub returns-in-Over-clause-ended : goal.returns-in-Over-clause-ended
returns-in-Over-clause-ended g c =
    so_marked (HasEnded g.N.Name.named (g.G.Gate.may_stop c.args.gate.now)) c.args.over.now.items c.args.self.now.lanes.items c.args.place c.serve_lane.new.lane c.requires.there
    (c.serve_lane.ensures.ended c.in-Over.is) c.requires.ended

pub returns-in-Over-clause-met : goal.returns-in-Over-clause-met
returns-in-Over-clause-met g c =
    let count = c.requires.marks in
    let there = c.requires.there in
    met_marked g.N.Name.named (g.G.Gate.may_stop c.args.gate.now) c.args.over.now.items c.args.self.now.lanes.items c.args.place c.serve_lane.new.lane
    (not_marked c.args.over.now.items c.args.place c.index.result.now c.index.ensures c.if-index.false) _ c.args.self.now.fault c.serve_lane.new.fault (omega arith) there c.serve_lane.ensures.tells c.requires.met

pub returns-in-Moved-clause-over : goal.returns-in-Moved-clause-over
returns-in-Moved-clause-over g c = λ whole.
    over_unmarked (g.G.Gate.may_stop c.args.gate.now) c.args.over.now.items c.args.self.now.lanes.items c.args.place c.serve_lane.new.lane
    (not_marked c.args.over.now.items c.args.place c.index.result.now c.index.ensures c.if-index.false) (c.requires.over (c.serve_lane.ensures.first whole))

pub returns-in-Waits-clause-over : goal.returns-in-Waits-clause-over
returns-in-Waits-clause-over g c = λ whole.
    over_unmarked (g.G.Gate.may_stop c.args.gate.now) c.args.over.now.items c.args.self.now.lanes.items c.args.place c.serve_lane.new.lane
    (not_marked c.args.over.now.items c.args.place c.index.result.now c.index.ensures c.if-index.false) (c.requires.over (c.serve_lane.ensures.first whole))
