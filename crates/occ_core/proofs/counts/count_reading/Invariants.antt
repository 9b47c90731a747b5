use Rattle.occ_core.proofs.Figures.{Counting}
use Rattle.occ_core.proofs.counts.count_reading.Given as goal

-- what was counted, before the sessions that are left
abbrev pub invariant-loop-place : goal.invariant-loop-place
invariant-loop-place g l = Counting l.phases l.sessions l.place l.count
