use Rattle.std.specs.List.{All}
use Rattle.occ_sharing.specs.Sharing.{IsIdle}
use Rattle.occ_sharing.proofs.held.idle_clients.Given as goal

-- those so far are idle
abbrev pub invariant-loop-done : goal.invariant-loop-done
invariant-loop-done g l = All (IsIdle l.sessions) l.clients.items
