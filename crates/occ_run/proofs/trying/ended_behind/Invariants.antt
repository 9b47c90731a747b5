use Rattle.std.proofs.Common.{◌≡◌}
use Rattle.occ_run.proofs.trying.ended_behind.Given as goal

-- nothing but the seat moves
abbrev pub invariant-loop : goal.invariant-loop
invariant-loop g l = l.session ≡ record l.fn.session { seat = l.session.seat }
