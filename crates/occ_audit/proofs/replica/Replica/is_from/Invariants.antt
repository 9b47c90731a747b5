use Rattle.occ_audit.proofs.Tables.{AllSame}
use Rattle.occ_audit.proofs.replica.Replica.is_from.Given as goal

-- all tables have the same rows where those that are left have
abbrev pub invariant-loop-table : goal.invariant-loop-table
invariant-loop-table g l = AllSame l.tables.state l.self l.first l.table-iterator → AllSame l.tables.state l.self l.first l.initial.table-iterator
