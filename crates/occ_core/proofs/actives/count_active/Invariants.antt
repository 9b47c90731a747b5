use Rattle.std.proofs.Common.{◌≡◌, ◌≤◌, ◌+◌, drop, length}
use Rattle.occ_log.specs.Logs.{row_at}
use Rattle.occ_log.specs.SessionStates.{active_from}
use Rattle.occ_core.proofs.actives.count_active.Given as goal

-- what was counted, before the sessions that are left
abbrev pub invariant-loop-place : goal.invariant-loop-place
invariant-loop-place g l = (l.count + length (active_from (row_at l.log) (drop l.place l.sessions)) ≡ length (active_from (row_at l.log) l.sessions)) × (l.count ≤ l.place)
