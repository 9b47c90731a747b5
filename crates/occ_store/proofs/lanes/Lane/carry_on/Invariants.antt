use Rattle.std.proofs.Common.{◌≡◌, Some}
use Rattle.occ_store.specs.Lanes.{number_left}
use Rattle.occ_store.specs.Serving.{IsSame, MayHaveMoved}
use Rattle.occ_store.proofs.lanes.Lane.carry_on.Given as goal

-- the same lane, which has taken nothing, came so far by an event, and still has to do what it began with
abbrev pub invariant-loop : goal.invariant-loop
invariant-loop g l = record {
  same : IsSame l.fn.self l.self;
  left : number_left l.self.left ≡ Some l.number;
  moved : MayHaveMoved g.N.Name.named l.fn.self l.number l.self;
}
