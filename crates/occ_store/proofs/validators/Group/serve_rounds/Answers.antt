use Rattle.occ_store.proofs.Rounds.{all_more, met_all}
use Rattle.occ_store.proofs.validators.Group.serve_rounds.Goals as goal

pub loop-preserved : goal.loop-preserved
loop-preserved g c = record {
  marks = c.serve_round-moved.ensures.marks;
  served = all_more _ _ _ c.loop.invariant.served c.serve_round-moved.ensures.served;
  over = c.serve_round-moved.ensures.over;
  stopped = c.serve_round-moved.ensures.stopped;
  ended = c.serve_round-moved.ensures.ended;
  met = c.serve_round-moved.ensures.met;
}

pub returns-then-all-clause-met : goal.returns-then-all-clause-met
returns-then-all-clause-met g c = met_all g.N.Name.named (g.G.Gate.may_stop c.args.gate.now) c.loop.self.fault c.loop.over.items c.loop.self.lanes.items c.loop.invariant.marks c.loop.invariant.met

pub returns-then-self-clause-met : goal.returns-then-self-clause-met
returns-then-self-clause-met g c = met_all g.N.Name.named (g.G.Gate.may_stop c.args.gate.now) c.loop.self.fault c.loop.over.items c.loop.self.lanes.items c.loop.invariant.marks c.loop.invariant.met
