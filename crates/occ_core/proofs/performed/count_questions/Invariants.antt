use Rattle.std.proofs.Common.{◌≤◌}
use Rattle.occ_core.proofs.performed.count_questions.Given as goal

-- no more than the operations so far
abbrev pub invariant-loop-operation : goal.invariant-loop-operation
invariant-loop-operation g l = (l.reads ≤ l.operation-index) × (l.answers ≤ l.operation-index)
