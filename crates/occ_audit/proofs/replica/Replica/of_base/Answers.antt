use Rattle.std.proofs.Common.{ap, ◌∙◌}
use Rattle.occ_audit.proofs.Common.{apply}
use Rattle.occ_audit.proofs.replica.Replica.of_base.Goals as goal

pub returns : goal.returns
returns g c =
    c.in_ok-write_folded.ensures ∙ ap (λ state. apply state c.parts.result.1.now) c.in_ok-replica.ensures ∙ c.parts.ensures.state
