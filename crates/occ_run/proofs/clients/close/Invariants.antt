use Rattle.std.proofs.Common.{◌≡◌}
use Rattle.occ_run.proofs.clients.close.Given as goal

-- all stays while the queue is full
abbrev pub invariant-loop : goal.invariant-loop
invariant-loop g l = l.session ≡ l.fn.session
