use Rattle.std.proofs.Common.{ℕ, ◌+◌, get_or, sym, subst, ◌∙◌, arith}
use Rattle.occ_text.proofs.Digits.{IsShort, short_below, short_more, no_digit, stops, ends}
use Rattle.occ_text.proofs.tokens.short_decimal.Goals as goal

pub returns-then-not-is_ascii_digit : goal.returns-then-not-is_ascii_digit
returns-then-not-is_ascii_digit c =
    let byte = get_or c.args.token.now c.loop-byte.byte-index 0 in
    sym (stops c.args.token.now c.loop-byte.byte-index c.loop-byte.number (omega arith) (no_digit c.loop-byte.number byte (sym c.is_ascii_digit.ensures.value ∙ c.if-not-is_ascii_digit.true)) c.loop-byte.invariant.0)

pub with_short_digit-number-requires-clause-below : goal.with_short_digit-number-requires-clause-below
with_short_digit-number-requires-clause-below c = short_below c.loop-byte.byte-index c.loop-byte.number (omega (arith, c.requires.short, c.loop-byte-test.true)) c.loop-byte.invariant.1

pub loop-byte-preserved : goal.loop-byte-preserved
loop-byte-preserved c =
    subst (λ (n : ℕ). IsShort c.args.token.now (c.loop-byte.byte-index + 1) n) (sym c.with_short_digit-number.ensures)
    (short_more c.args.token.now c.loop-byte.byte-index c.loop-byte.number (omega arith) (omega (arith, c.requires.short, c.loop-byte-test.true)) (sym c.is_ascii_digit.ensures.value ∙ c.if-not-is_ascii_digit.false) c.loop-byte.invariant)

pub returns : goal.returns
returns c = sym (ends c.args.token.now c.loop-byte.byte-index c.loop-byte.number (omega arith) c.requires.begins c.loop-byte.invariant.0)
