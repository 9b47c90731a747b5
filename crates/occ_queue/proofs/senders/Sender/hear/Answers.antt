use Rattle.std.proofs.Common.{inl, ap, ◌∙◌}
use Rattle.occ_queue.proofs.Passing.{hears, learns}
use Rattle.occ_queue.proofs.senders.Sender.hear.Goals as goal

pub absorb-requires-clause-rule : goal.absorb-requires-clause-rule
absorb-requires-clause-rule g c = hears _ _ _ _

pub learn_as-requires-clause-rule : goal.learn_as-requires-clause-rule
learn_as-requires-clause-rule g c = learns _ _ (inl (ap (λ k. k.sends) c.absorb.ensures.rule ∙ c.self.invariant.2.0))
