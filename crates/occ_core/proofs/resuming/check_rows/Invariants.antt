use Rattle.std.proofs.Common.{◌≡◌}
use Rattle.occ_core.specs.Resuming.{rows_fault}
use Rattle.occ_core.proofs.resuming.check_rows.Given as goal

-- the rows before this one have none
abbrev pub invariant-loop-key : goal.invariant-loop-key
invariant-loop-key g l = rows_fault l.schema l.table l.initial.key-iterator ≡ rows_fault l.schema l.table l.key-iterator
