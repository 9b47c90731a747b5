use Rattle.std.proofs.Common.{◌≢◌, take}
use Rattle.std.specs.List.{All}
use Rattle.occ_text.proofs.separated_parts.find_near.Given as goal

-- the byte doesn't stand so far
abbrev pub invariant-loop-place : goal.invariant-loop-place
invariant-loop-place l = All (λ byte. byte ≢ l.wanted) (take l.place l.bytes)
