use Rattle.std.proofs.Common.{◌≡◌, length, None, true}
use Rattle.occ_store.specs.Serving.{AreServed, AreOver, HaveEnded, IsMetMarked}
use Rattle.occ_store.proofs.validators.Group.serve_round.Given as goal

-- each lane was served, and those that are marked have ended
abbrev pub invariant-loop-place : goal.invariant-loop-place
invariant-loop-place g l = record {
  marks : length l.over.items ≡ length l.self.lanes.items;
  served : AreServed l.fn.self.lanes.items l.self.lanes.items;
  over : l.self.fault ≡ None → AreOver (g.G.Gate.may_stop l.gate) l.over.items l.self.lanes.items;
  stopped : l.self.stopped ≡ true → g.N.MayStop.may_be_stopped;
  ended : HaveEnded g.N.Name.named (g.G.Gate.may_stop l.gate) l.over.items l.self.lanes.items;
  met : IsMetMarked g.N.Name.named (g.G.Gate.may_stop l.gate) l.self.fault l.over.items l.self.lanes.items;
}
