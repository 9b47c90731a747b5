use Rattle.std.proofs.Common.{◌≡◌, drop, map}
use Rattle.occ_model.specs.State.{meets_reads}
use Rattle.occ_sets.proofs.meets.meets_reads.Given as goal

-- the questions that are left are met where some question is
abbrev pub invariant-loop-place : goal.invariant-loop-place
invariant-loop-place g l = meets_reads l.writes (map (λ o. o.0) (drop l.place l.reads)) ≡ meets_reads l.writes (map (λ o. o.0) l.reads)
