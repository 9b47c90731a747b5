use Rattle.std.proofs.Common.{ℕ, ◌<◌}
use Rattle.occ_audit.proofs.Common.{SameTable}
use Rattle.occ_audit.proofs.replica.Replica.is_of.Given as goal

-- the tables so far have the same rows
abbrev pub invariant-loop-table : goal.invariant-loop-table
invariant-loop-table g l = (table : ℕ) → table < l.table → SameTable table l.tables.state l.self
