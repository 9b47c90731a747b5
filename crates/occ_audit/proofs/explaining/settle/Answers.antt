use Rattle.std.proofs.Common.{◌∙◌, ap, sym}
use Rattle.occ_audit.proofs.Common.{apply, writes_in}
use Rattle.occ_audit.proofs.explaining.settle.Goals as goal

pub loop-object-preserved : goal.loop-object-preserved
loop-object-preserved g c =
    let state = c.loop-object.state in
    ap (λ s. apply s (writes_in c.next.new.self)) c.in_ok-put.ensures
    ∙ ap (λ es. apply state (writes_in es)) (sym c.in-Some.ensures.steps)
    ∙ c.loop-object.invariant

pub returns : goal.returns
returns g c =
    ap (λ es. apply c.loop-object.state (writes_in es)) (sym c.in-None.ensures.steps.0) ∙ c.loop-object.invariant
