use Rattle.std.proofs.Common.{◌≡◌, drop}
use Rattle.occ_audit.proofs.Common.{Explained, serial, log_of, Iff}
use Rattle.occ_audit.proofs.serial_replay.replay.Given as goal

-- the whole log is explained where what is left is explained from the state so far, and both lead to the same state
abbrev pub invariant-loop-row : goal.invariant-loop-row
invariant-loop-row g l =
    Iff (Explained l.base.base.state (log_of l.log)) (Explained l.replica (log_of (drop l.row-index l.log)))
    × (serial l.replica (log_of (drop l.row-index l.log)) ≡ serial l.base.base.state (log_of l.log))
