use Rattle.std.proofs.Common.{ap, arith, length-drop}
use Rattle.occ_text.proofs.Sending.{Sends-held, held_more}
use Rattle.occ_text.specs.Sending.{Outgoing}
use Rattle.occ_text.proofs.output.Output.push.Goals as goal

pub returns-then-len-self-lt-BLOCK-clause-gives : goal.returns-then-len-self-lt-BLOCK-clause-gives
returns-then-len-self-lt-BLOCK-clause-gives g c = (
  Sends-held _ _ _ (held_more _ _ _ _ _ c.self.invariant (ap (λ (o : Outgoing). o.held) c.self.view_is) c.in_ok-extend_from_slice.ensures.items),
  rw length-drop (omega (arith, c.extend_from_slice.new.self.ok.0)),
)
