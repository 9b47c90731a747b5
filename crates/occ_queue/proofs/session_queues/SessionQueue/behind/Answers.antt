use Rattle.std.proofs.Common.{false, sym, subst, arith}
use Rattle.occ_queue.specs.Numbering.{IsInTurn}
use Rattle.occ_queue.specs.Waiting.{Waiting}
use Rattle.occ_queue.proofs.Turns.{behind_in_turn}
use Rattle.occ_queue.proofs.session_queues.SessionQueue.behind.Goals as goal

pub invariant_of-result : goal.invariant_of-result
invariant_of-result g c =
    subst (λ (w : Waiting). IsInTurn (record { items = w.items; limit = w.limit; before = c.args.last; pushed = c.args.last; closed = false })) (sym c.in_ok-queue.ensures.empty) (behind_in_turn c.args.limit c.args.last (omega arith))
