use Rattle.std.proofs.Common.{◌≡◌, ◌++◌}
use Rattle.occ_audit.proofs.Common.{rows_of}
use Rattle.occ_audit.proofs.answers.copies.Given as goal

-- the copies so far and the rows that are left are all rows
abbrev pub invariant-loop-key : goal.invariant-loop-key
invariant-loop-key g l = rows_of l.copies.items ++ l.key-iterator ≡ l.fn.rows
