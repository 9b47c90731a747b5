use Rattle.std.proofs.Common.{◌≡◌, drop}
use Rattle.std.specs.List.{list_any}
use Rattle.occ_run.specs.Clients.{is_starved}
use Rattle.occ_run.proofs.outcomes.are_starved.Given as goal

-- what is left gives what all of them give
abbrev pub invariant-loop-client : goal.invariant-loop-client
invariant-loop-client g l = list_any is_starved (drop l.client-index l.clients) ≡ list_any is_starved l.clients
