use Rattle.std.proofs.Common.{◌≡◌, ◌-◌}
use Rattle.occ_core.specs.Resuming.{tables_fault}
use Rattle.occ_core.proofs.resuming.check_tables.Given as goal

-- the tables before this one have none
abbrev pub invariant-loop-table : goal.invariant-loop-table
invariant-loop-table g l = tables_fault l.schema l.tables.state 0 l.tables.tables ≡ tables_fault l.schema l.tables.state l.table (l.tables.tables - l.table)
