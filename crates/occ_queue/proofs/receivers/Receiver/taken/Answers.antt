use Rattle.std.proofs.Common.{subst}
use Rattle.occ_queue.specs.Lanes.{Known, InTurn}
use Rattle.occ_queue.proofs.Ends.{taken_in_turn}
use Rattle.occ_queue.proofs.receivers.Receiver.taken.Goals as goal

pub returns-clause-in_turn : goal.returns-clause-in_turn
returns-clause-in_turn g c = subst (λ (k : Known). InTurn k.before k.taken) c.self.view_is (taken_in_turn _ _ _ c.self.invariant.4)
