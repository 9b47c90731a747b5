use Rattle.std.proofs.Common.{ap, ◌∙◌}
use Rattle.occ_reading.proofs.Common.{Outgoing}
use Rattle.occ_reading.proofs.VerdictWriting.{push_failed, flush_failed, all_written}
use Rattle.occ_reading.proofs.audits.tell.Goals as goal

pub returns-in_err-push : goal.returns-in_err-push
returns-in_err-push g c =
    push_failed c.in_err-push.field-0.0 c.from_residual.result c.args.verdict _ _ c.as_bytes.result.now c.new-output.result.held c.push.new.self.held c.from_residual.ensures.1 (c.as_bytes.ensures.value ∙ c.verdict_line.ensures) (ap (λ (o : Outgoing). o.held) c.new-output.ensures) c.in_err-push.ensures.gives

pub returns-in_err-flush : goal.returns-in_err-flush
returns-in_err-flush g c =
    flush_failed c.from_residual-in_err-flush.result c.args.verdict _ _ _ c.as_bytes.result.now c.new-output.result.held c.push.new.self.held _ c.from_residual-in_err-flush.ensures.1 (c.as_bytes.ensures.value ∙ c.verdict_line.ensures) (ap (λ (o : Outgoing). o.held) c.new-output.ensures)
    c.in_ok-push.ensures.gives.0 c.in_err-flush.ensures.gives

pub returns : goal.returns
returns g c =
    all_written c.args.verdict _ _ _ c.as_bytes.result.now c.new-output.result.held c.push.new.self.held (c.as_bytes.ensures.value ∙ c.verdict_line.ensures) (ap (λ (o : Outgoing). o.held) c.new-output.ensures) c.in_ok-push.ensures.gives.0 c.in_ok-flush.ensures.gives.0
