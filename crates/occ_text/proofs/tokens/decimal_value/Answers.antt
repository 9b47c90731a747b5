use Rattle.std.proofs.Common.{◌≡◌, true, get_or, None, Some, sym, ◌∙◌, arith}
use Rattle.occ_text.specs.Digits.{begins_decimal, with_digit}
use Rattle.occ_text.proofs.Digits.{begins_none, goes_on, stops, ends}
use Rattle.occ_text.proofs.tokens.decimal_value.Goals as goal

pub returns-then-not-begins_decimal : goal.returns-then-not-begins_decimal
returns-then-not-begins_decimal c = sym (begins_none c.args.token.now (sym c.begins_decimal.ensures ∙ c.if-not-begins_decimal.true))

pub returns-in_default : goal.returns-in_default
returns-in_default c =
    let now = c.with_digit.ensures in
    let is = c.in_default.is in
    let none : with_digit c.loop-byte.number (get_or c.args.token.now c.loop-byte.byte-index 0) ≡ None = cc in
    sym (stops c.args.token.now c.loop-byte.byte-index c.loop-byte.number (omega arith) none c.loop-byte.invariant)

pub loop-byte-preserved : goal.loop-byte-preserved
loop-byte-preserved c =
    let now = c.with_digit.ensures in
    let is = c.in-Some.is in
    let some : with_digit c.loop-byte.number (get_or c.args.token.now c.loop-byte.byte-index 0) ≡ Some c.in-Some.longer = cc in
    goes_on c.args.token.now c.loop-byte.byte-index c.loop-byte.number c.in-Some.longer (omega arith) some c.loop-byte.invariant

pub returns : goal.returns
returns c =
    let now = c.begins_decimal.ensures in
    let passed = c.if-not-begins_decimal.false in
    let begins : begins_decimal c.args.token.now ≡ true = cc in
    sym (ends c.args.token.now c.loop-byte.byte-index c.loop-byte.number (omega arith) begins c.loop-byte.invariant)
