use Rattle.std.proofs.Common.{ap}
use Rattle.occ_text.specs.Sending.{Outgoing}
use Rattle.occ_run.proofs.Reporting.{unsent, amid_flush, flushed}
use Rattle.occ_run.proofs.outcomes.write_whole.Goals as goal

pub returns-in_err-holds : goal.returns-in_err-holds
returns-in_err-holds g c = unsent _ c.from_residual.result _ _ _ _ _ c.from_residual.ensures.1 (ap (λ (o : Outgoing). o.held) c.new-output.ensures) c.in_err-holds.ensures.gives

pub returns-in_err-flush : goal.returns-in_err-flush
returns-in_err-flush g c =
    amid_flush _ c.from_residual-in_err-flush.result _ _ _ _ _ _ _ c.from_residual-in_err-flush.ensures.1 (ap (λ (o : Outgoing). o.held) c.new-output.ensures) c.in_ok-holds.ensures.gives.1 c.in_err-flush.ensures.gives

pub returns : goal.returns
returns g c = (c.in_ok-holds.ensures.gives.0, flushed _ _ _ _ _ _ (ap (λ (o : Outgoing). o.held) c.new-output.ensures) c.in_ok-holds.ensures.gives.1 c.in_ok-flush.ensures.gives.0)
