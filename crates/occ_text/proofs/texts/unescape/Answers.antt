use Rattle.std.proofs.Common.{length, arith, sym}
use Rattle.std.proofs.lemmas.Bool.{eqb-true, eqb-false}
use Rattle.occ_text.proofs.Escapes.{loop_more, loop_none, loop_end, front_shorter}
use Rattle.occ_text.proofs.texts.unescape.Goals as goal

pub returns-in_default : goal.returns-in_default
returns-in_default g c =
    let some = eqb-false (length c.loop-rest.rest.now) 0 (sym c.loop-rest-test.ensures) in
    loop_none c.args.bytes.now c.loop-rest.rest.now c.loop-rest.text.items (omega arith) (sym c.in_default.ensures) c.loop-rest.invariant

pub loop-rest-smaller : goal.loop-rest-smaller
loop-rest-smaller g c = front_shorter c.loop-rest.rest.now c.in-Some.byte c.in-Some.after.now (sym c.in-Some.ensures)

pub loop-rest-preserved : goal.loop-rest-preserved
loop-rest-preserved g c =
    let some = eqb-false (length c.loop-rest.rest.now) 0 (sym c.loop-rest-test.ensures) in
    loop_more c.args.bytes.now c.loop-rest.rest.now c.in-Some.after.now c.loop-rest.text.items c.push.new.self.items c.in-Some.byte (omega arith) (sym c.in-Some.ensures) c.in_ok-push.ensures.items c.loop-rest.invariant

pub returns : goal.returns
returns g c = loop_end c.args.bytes.now c.loop-rest.rest.now c.loop-rest.text.items (eqb-true (length c.loop-rest.rest.now) 0 (sym c.loop-rest-test.ensures)) c.loop-rest.invariant
