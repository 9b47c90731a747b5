use Rattle.std.proofs.Common.{sym, ◌∙◌}
use Rattle.occ_store.proofs.Points.{turned, waits, stops_before, heeds_turn, untrue}
use Rattle.occ_store.proofs.lanes.Lane.turn.Goals as goal

pub returns-then-stops_at_verdict-clause-turns : goal.returns-then-stops_at_verdict-clause-turns
returns-then-stops_at_verdict-clause-turns g c =
    stops_before g.N.Name.named (g.G.Gate.may_stop c.args.gate.now) c.args.self.now c.args.number (c.stops_at_verdict.ensures.open c.if-stops_at_verdict.true c.requires) (c.stops_at_verdict.ensures.may c.if-stops_at_verdict.true)

pub returns-in-Ok-clause-turns : goal.returns-in-Ok-clause-turns
returns-in-Ok-clause-turns g c =
    turned g.N.Name.named (g.G.Gate.may_stop c.args.gate.now) c.args.self.now c.event-moved.new.self c.args.number c.in-Ok.point c.reached.result c.requires c.in-Ok.ensures.happened
    (c.in-Ok.ensures.moves c.args.number c.requires) c.reached.ensures.some c.reached.ensures.told c.reached.ensures.none

pub returns-in-Err-clause-turns : goal.returns-in-Err-clause-turns
returns-in-Err-clause-turns g c =
    waits g.N.Name.named (g.G.Gate.may_stop c.args.gate.now) c.args.self.now c.event-moved.new.self c.args.number c.in-Err.fault c.requires c.in-Err.ensures.happened (c.in-Err.ensures.moves c.args.number c.requires)
    (c.is_busy.ensures.busy c.if-is_busy.true)

pub returns-in-Ok-clause-heeds : goal.returns-in-Ok-clause-heeds
returns-in-Ok-clause-heeds g c =
    heeds_turn g.N.Name.named (g.G.Gate.must_stop c.args.gate.now) c.args.self.now c.event-moved.new.self c.args.number c.in-Ok.point c.reached.result c.requires c.in-Ok.ensures.happened
    (λ open_row must. untrue (sym c.if-stops_at_verdict.false ∙ c.stops_at_verdict.ensures.must open_row must)) c.reached.ensures.must c.reached.ensures.heeds
