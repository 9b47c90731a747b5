use Rattle.occ_audit.proofs.Orders.{AreClosedTo}
use Rattle.occ_audit.proofs.disorders.first_open_mark.Given as goal

-- the marks of the sessions so far are due
abbrev pub invariant-loop-before : goal.invariant-loop-before
invariant-loop-before g l = AreClosedTo l.before l.base.base l.marks.marks l.last
