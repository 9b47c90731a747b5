use Rattle.std.proofs.Common.{◌≡◌}
use Rattle.bench_loads.proofs.turns.Turn.read_and_write.Given as goal

-- the transaction stays its session's
abbrev pub invariant-loop-place : goal.invariant-loop-place
invariant-loop-place g l = l.work.front.party ≡ l.fn.work.front.party
