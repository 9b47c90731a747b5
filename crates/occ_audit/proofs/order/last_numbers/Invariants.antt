use Rattle.std.proofs.Common.{drop}
use Rattle.occ_audit.proofs.Common.{log_of}
use Rattle.occ_audit.proofs.Orders.{AreCounted}
use Rattle.occ_audit.proofs.order.last_numbers.Given as goal

-- each session's numbers so far are counted
abbrev pub invariant-loop-row : goal.invariant-loop-row
invariant-loop-row g l = AreCounted l.base.base (log_of l.log) (log_of (drop l.row-index l.log)) l.last
