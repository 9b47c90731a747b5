use Rattle.std.proofs.Common.{◌+◌, drop}
use Rattle.occ_audit.proofs.Common.{Counts, log_of, ArePlaced, Iff}
use Rattle.occ_audit.proofs.Orders.{places}
use Rattle.occ_audit.proofs.order.are_placed.Given as goal

-- the places count on from the first one where those that are left count on from here
abbrev pub invariant-loop-before : goal.invariant-loop-before
invariant-loop-before g l = Iff (ArePlaced l.first (log_of l.log)) (Counts (l.first + l.before) (places (log_of (drop l.before l.log))))
