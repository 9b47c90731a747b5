use Rattle.occ_text.proofs.Digits.{IsShort}
use Rattle.occ_text.proofs.tokens.short_decimal.Given as goal

-- the digits so far are read, and their number has no more of them
abbrev pub invariant-loop-byte : goal.invariant-loop-byte
invariant-loop-byte l = IsShort l.token l.byte-index l.number
