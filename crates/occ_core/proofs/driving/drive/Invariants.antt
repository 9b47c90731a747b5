use Rattle.std.proofs.Common.{◌≡◌, ◌≤◌, length, vec_len, vec_capacity}
use Rattle.occ_core.specs.Runs.{Runs}
use Rattle.occ_core.proofs.driving.drive.Given as goal

-- the steps so far have their replies, and there is room for the others
abbrev pub invariant-loop-step : goal.invariant-loop-step
invariant-loop-step g l = Runs l.initial.core l.yielded l.replies.items l.core × (vec_len l.replies ≡ length l.yielded) × (length l.fn.steps.items ≤ vec_capacity l.replies)
