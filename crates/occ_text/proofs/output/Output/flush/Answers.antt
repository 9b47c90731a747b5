use Rattle.std.proofs.Common.{ap}
use Rattle.occ_text.specs.Sending.{Outgoing}
use Rattle.occ_text.proofs.Sending.{Sends-unflushed}
use Rattle.occ_text.proofs.output.Output.flush.Goals as goal

pub returns-in-Err-clause-gives : goal.returns-in-Err-clause-gives
returns-in-Err-clause-gives g c = Sends-unflushed _ _ _ _ _ _ (ap (λ (o : Outgoing). o.held) c.self.view_is) c.in_ok-send.ensures.gives.0 c.in_ok-send.ensures.gives.1 c.in-Err.ensures.bytes
