use Rattle.std.proofs.Common.{drop}
use Rattle.occ_audit.proofs.Common.{AreAnswers, Iff}
use Rattle.occ_audit.proofs.serial_replay.are_answers.Given as goal

-- all are answers where those that are left are
abbrev pub invariant-loop-seen : goal.invariant-loop-seen
invariant-loop-seen g l = Iff (AreAnswers l.replica l.reads) (AreAnswers l.replica (drop l.seen-iterator.place l.seen-iterator.set.now))
