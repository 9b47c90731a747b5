use Rattle.std.proofs.Common.{arith, length-drop}
use Rattle.std.proofs.lemmas.List.{take_rest}
use Rattle.occ_text.proofs.Sending.{Sends-on}
use Rattle.occ_text.proofs.output.send_all.Goals as goal

pub loop-sent-preserved : goal.loop-sent-preserved
loop-sent-preserved g c =
    let w = rw take_rest at c.in_ok-sent.ensures.bytes in
    let n = rw (take_rest, length-drop) at c.in_ok-sent.ensures.within in
    record { within = omega arith; written = Sends-on _ _ _ _ c.args.bytes.now c.loop-sent.sent c.in_ok-sent.field-0 c.loop-sent.invariant.written w }
