use Rattle.std.proofs.Common.{subst, sym, ◌∙◌}
use mathlib.Core.List.{IsPrefix}
use Rattle.occ_queue.specs.Lanes.{Known}
use Rattle.occ_queue.proofs.Ends.{none_after}
use Rattle.occ_queue.proofs.receivers.Receiver.is_closed.Goals as goal

pub returns-clause-all : goal.returns-clause-all
returns-clause-all g c =
    λ closed. subst (λ (k : Known). IsPrefix k.pushed k.taken) c.self.view_is (none_after _ _ _ c.self.invariant.4 (sym c.self.invariant.3 ∙ closed))
