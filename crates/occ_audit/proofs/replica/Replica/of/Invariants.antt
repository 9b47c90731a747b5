use Rattle.occ_audit.proofs.Tables.{IsFilledTo}
use Rattle.occ_audit.proofs.replica.Replica.of.Given as goal

-- the tables so far have their rows, and the others none
abbrev pub invariant-loop-table : goal.invariant-loop-table
invariant-loop-table g l = IsFilledTo l.table l.tables.state l.replica
