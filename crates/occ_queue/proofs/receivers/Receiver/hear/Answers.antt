use Rattle.std.proofs.Common.{inr, ap, ◌∙◌}
use Rattle.occ_queue.proofs.Passing.{hears, learns}
use Rattle.occ_queue.proofs.receivers.Receiver.hear.Goals as goal

pub absorb-requires-clause-rule : goal.absorb-requires-clause-rule
absorb-requires-clause-rule g c = hears _ _ _ _

pub learn_as-requires-clause-rule : goal.learn_as-requires-clause-rule
learn_as-requires-clause-rule g c = learns _ _ (inr (ap (λ k. k.takes) c.absorb.ensures.rule ∙ c.self.invariant.1.1))
