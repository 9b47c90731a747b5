use Rattle.std.proofs.Common.{◌≡◌, replicate}
use Rattle.occ_cli.proofs.Common.{fresh}
use Rattle.occ_cli.proofs.clients.fresh_clients.Given as goal

abbrev pub invariant-loop : goal.invariant-loop
invariant-loop g l = l.clients.items ≡ replicate l.counter (fresh l.queue)
