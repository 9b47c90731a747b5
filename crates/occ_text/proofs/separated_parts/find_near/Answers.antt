use Rattle.std.proofs.Common.{◌≢◌, arith}
use Rattle.std.proofs.lemmas.List.Elements.{All-more}
use Rattle.occ_text.proofs.separated_parts.find_near.Goals as goal

pub loop-place-preserved : goal.loop-place-preserved
loop-place-preserved c = All-more (λ byte. byte ≢ c.args.wanted) c.args.bytes.now c.loop-place.place 0 (omega arith) c.loop-place.invariant c.if-byte-wanted.false
