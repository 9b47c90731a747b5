use Rattle.std.proofs.Common.{◌≡◌, take}
use Rattle.std.specs.List.{flat_map}
use Rattle.occ_run.specs.Clients.{gave_up}
use Rattle.occ_run.proofs.outcomes.given_up.Given as goal

-- the sessions so far
abbrev pub invariant-loop-client : goal.invariant-loop-client
invariant-loop-client g l = l.sessions.items ≡ flat_map gave_up (take l.client-index l.clients)
