use Rattle.std.proofs.Common.{take}
use Rattle.occ_audit.proofs.Common.{AreLast, log_of}
use Rattle.occ_audit.specs.Findings.{AreOrdered}
use Rattle.occ_audit.proofs.disorders.count_rows.Given as goal

-- the rows so far are in order, and the last number of each session is kept
abbrev pub invariant-loop-index : goal.invariant-loop-index
invariant-loop-index g l = AreOrdered l.base.base (log_of (take l.index l.log)) × AreLast l.base.base l.last (log_of (take l.index l.log))
