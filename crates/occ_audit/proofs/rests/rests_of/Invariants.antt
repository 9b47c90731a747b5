use Rattle.std.proofs.Common.{◌≡◌, drop}
use Rattle.occ_audit.proofs.Common.{State, apply, settled, log_of, writes_in}
use Rattle.occ_audit.proofs.rests.rests_of.Given as goal

-- the rows that are left lead to the same end
abbrev pub invariant-loop-row : goal.invariant-loop-row
invariant-loop-row g l = (table : State) → settled (apply table (writes_in l.rests.entries)) (log_of (drop l.row-index l.log)) ≡ settled table (log_of l.log)
