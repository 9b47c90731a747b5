use Rattle.std.proofs.Common.{◌≡◌, ◌++◌, drop}
use Rattle.occ_log.specs.Logs.{row_at}
use Rattle.occ_log.specs.SessionStates.{active_from}
use Rattle.occ_core.proofs.actives.with_active.Given as goal

-- what was found, before the sessions that are left
abbrev pub invariant-loop-place : goal.invariant-loop-place
invariant-loop-place g l = l.opponents.items ++ active_from (row_at l.log) (drop l.place l.sessions) ≡ l.fn.finished.items ++ active_from (row_at l.log) l.sessions
