use Rattle.std.proofs.Common.{◌≡◌, drop}
use Rattle.occ_audit.proofs.Common.{apply}
use Rattle.occ_audit.proofs.replica.Replica.write_folded.Given as goal

-- the writes that are left lead to the same end
abbrev pub invariant-loop-place : goal.invariant-loop-place
invariant-loop-place g l = apply l.self (drop l.place l.writes) ≡ apply l.fn.self l.writes
