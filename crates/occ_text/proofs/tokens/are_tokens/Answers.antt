use Rattle.std.proofs.Common.{sym, ◌∙◌, arith}
use Rattle.occ_text.proofs.TokenBytes.{none_at, all_at_end}
use Rattle.occ_text.proofs.tokens.are_tokens.Goals as goal

pub returns-then-not-may_follow : goal.returns-then-not-may_follow
returns-then-not-may_follow c =
    none_at c.args.line.now c.loop-byte.byte-index c.loop-byte.previous (omega arith) (sym c.may_follow.ensures ∙ c.if-not-may_follow.true) c.loop-byte.invariant

pub returns : goal.returns
returns c = all_at_end c.args.line.now c.loop-byte.byte-index c.loop-byte.previous (omega arith) c.loop-byte.invariant
