use Rattle.std.proofs.Common.{Err}
use Rattle.occ_store.proofs.Points.{carried, goes_on_so, ends_so, heeds_so}
use Rattle.occ_store.proofs.lanes.Lane.carry_on.Goals as goal

pub returns-in-Ok-Some-clause-carries : goal.returns-in-Ok-Some-clause-carries
returns-in-Ok-Some-clause-carries g c =
    ends_so g.N.Name.named (g.G.Gate.may_stop c.args.gate.now) c.args.self.now c.loop.self c.turn.new.self c.args.number c.in-Ok-Some.field-0 c.in-Ok-Some.served c.in-Ok-Some.field-0-is
    c.loop.invariant.same c.loop.invariant.moved c.in-Ok-Some.ensures.turns

pub returns-in-Ok-Some-clause-heeds : goal.returns-in-Ok-Some-clause-heeds
returns-in-Ok-Some-clause-heeds g c =
    heeds_so g.N.Name.named (g.G.Gate.must_stop c.args.gate.now) c.loop.self c.turn.new.self c.args.number c.in-Ok-Some.field-0 c.in-Ok-Some.served c.in-Ok-Some.field-0-is c.in-Ok-Some.ensures.heeds

pub loop-preserved : goal.loop-preserved
loop-preserved g c =
    let so = goes_on_so g.N.Name.named (g.G.Gate.may_stop c.args.gate.now) c.args.self.now c.loop.self c.turn.new.self c.args.number c.in-Ok-None.field-0 c.in-Ok-None.field-0-is
    c.loop.invariant.same c.loop.invariant.moved c.in-Ok-None.ensures.turns in record {
      same = so.0;
      left = so.1;
      moved = so.2;
    }

pub returns-in-Err-clause-carries : goal.returns-in-Err-clause-carries
returns-in-Err-clause-carries g c =
    carried g.N.Name.named (g.G.Gate.may_stop c.args.gate.now) c.args.self.now c.loop.self c.turn.new.self c.args.number (Err c.in-Err.fault) c.loop.invariant.same c.loop.invariant.moved c.in-Err.ensures.turns
