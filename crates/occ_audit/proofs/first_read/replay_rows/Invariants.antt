use Rattle.std.proofs.Common.{◌≡◌, take}
use Rattle.occ_audit.proofs.Common.{Explained, log_of, serial}
use Rattle.occ_audit.proofs.first_read.replay_rows.Given as goal

-- the rows so far are explained, and lead to the state so far
abbrev pub invariant-loop-index : goal.invariant-loop-index
invariant-loop-index g l = Explained l.base.base.state (log_of (take l.index l.log)) × (l.replica ≡ serial l.base.base.state (log_of (take l.index l.log)))
