use Rattle.occ_text.proofs.Digits.{IsRead}
use Rattle.occ_text.proofs.tokens.decimal_value.Given as goal

-- the digits so far are read
abbrev pub invariant-loop-byte : goal.invariant-loop-byte
invariant-loop-byte l = IsRead l.token l.byte-index l.number
