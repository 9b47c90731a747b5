use Rattle.std.proofs.Common.{take}
use Rattle.occ_audit.proofs.Common.{AreAnswers}
use Rattle.occ_audit.proofs.first_read.first_wrong.Given as goal

-- the reads so far are answered so
abbrev pub invariant-loop-read : goal.invariant-loop-read
invariant-loop-read g l = AreAnswers l.replica (take l.read l.reads)
