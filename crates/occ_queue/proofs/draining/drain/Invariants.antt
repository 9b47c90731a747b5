use Rattle.std.proofs.Common.{◌≡◌, ◌-◌, length}
use Rattle.std.specs.Prelude.{vec_len, vec_capacity}
use Rattle.std.specs.Arc.{arc_value}
use Rattle.crossbeam_queue.specs.Passes.{view, IsPassOf}
use Rattle.occ_queue.proofs.TakenOut.{AllKnown}
use Rattle.occ_queue.proofs.draining.drain.Given as goal

-- the pass knows all that was pushed, and what is in the list was taken after what was taken before
abbrev pub invariant-loop-item : goal.invariant-loop-item
invariant-loop-item g l = IsPassOf (arc_value l.line) l.pass
    × AllKnown l.fn.sender.pushed l.fn.receiver.taken l.left.items (view l.pass)
    × (vec_capacity l.left ≡ vec_capacity l.fn.room)
    × (vec_len l.left ≡ length l.left.items)

-- what is left
abbrev pub decreases-loop-item : goal.decreases-loop-item
decreases-loop-item g l = length (view l.pass).pushed - length (view l.pass).taken
