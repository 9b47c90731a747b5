use Rattle.std.proofs.Common.{◌≡◌, drop}
use Rattle.occ_text.specs.TokenBytes.{goes_on}
use Rattle.occ_text.proofs.tokens.are_tokens.Given as goal

-- what is left goes on behind the byte before it as the line goes on behind a space
abbrev pub invariant-loop-byte : goal.invariant-loop-byte
invariant-loop-byte l = goes_on l.previous (drop l.byte-index l.line) ≡ goes_on 32 l.line
