use Rattle.occ_audit.proofs.Differences.{TablesWalked}
use Rattle.occ_audit.proofs.first_difference.first_apart.Given as goal

-- the rows of the tables so far stand in the other state
abbrev pub invariant-loop-table : goal.invariant-loop-table
invariant-loop-table g l = TablesWalked l.state l.other l.initial.table-iterator l.table-iterator
