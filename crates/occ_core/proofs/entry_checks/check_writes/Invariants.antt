use Rattle.std.proofs.Common.{◌≡◌, drop}
use Rattle.occ_model.specs.Refusal.{check_writes}
use Rattle.occ_core.proofs.entry_checks.check_writes.Given as goal

-- the writes that are left have the first fault
abbrev pub invariant-loop-place : goal.invariant-loop-place
invariant-loop-place g l = check_writes l.schema (drop l.place l.writes) ≡ check_writes l.schema l.writes
