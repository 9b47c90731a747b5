use Rattle.std.proofs.Common.{sym, ap, ◌∙◌}
use Rattle.occ_filed.proofs.Tied.{opened_tied}
use Rattle.occ_filed.proofs.filed_core.FiledCore.resume.Goals as goal

pub invariant_of-result : goal.invariant_of-result
invariant_of-result g c = opened_tied _ _ _ (c.in-Ok.ensures.count ∙ sym (ap (λ w. w.settings.sessions) c.in_ok-core.ensures.resumed)) c.in-Ok.ensures.none
