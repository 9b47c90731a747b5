use Rattle.std.proofs.Common.{arith}
use Rattle.occ_text.proofs.Readers.{same_more, same_less, same_all}
use Rattle.occ_text.proofs.tokens.are_same.Goals as goal

pub returns-then-token-place : goal.returns-then-token-place
returns-then-token-place c = same_less c.args.token.now c.args.word.now c.loop-place.place (omega arith) (omega arith) c.if-token-place.true c.loop-place.invariant

pub loop-place-preserved : goal.loop-place-preserved
loop-place-preserved c = same_more c.args.token.now c.args.word.now c.loop-place.place (omega arith) (omega arith) c.if-token-place.false c.loop-place.invariant

pub returns : goal.returns
returns c = same_all c.args.token.now c.args.word.now c.loop-place.place (omega arith) (omega arith) c.loop-place.invariant
