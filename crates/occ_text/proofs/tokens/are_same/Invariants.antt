use Rattle.std.proofs.Common.{◌≡◌, drop}
use Rattle.std.specs.Str.{bytes_eq}
use Rattle.occ_text.proofs.tokens.are_same.Given as goal

-- what is left of both is the same where they are
abbrev pub invariant-loop-place : goal.invariant-loop-place
invariant-loop-place l = bytes_eq (drop l.place l.token) (drop l.place l.word) ≡ bytes_eq l.token l.word
