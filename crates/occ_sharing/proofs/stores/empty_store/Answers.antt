use Rattle.std.proofs.Common.{ap}
use Rattle.occ_sharing.specs.declared.held.Held.{Held}
use Rattle.occ_sharing.proofs.Holdings.{opened_held}
use Rattle.occ_sharing.proofs.stores.empty_store.Goals as goal

pub returns-clause-fits : goal.returns-clause-fits
returns-clause-fits g c = opened_held _ _ _ _ _ _ _ _ c.in_ok-copy.ensures.copy (ap (λ (h : Held _). h.core.world) c.in_ok-held.ensures.ok) c.in_ok-core.ensures.opened
    (ap (λ (h : Held _). h.idle.items) c.in_ok-held.ensures.ok) c.in_ok-idle.ensures.idle
