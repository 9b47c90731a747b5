use Rattle.std.proofs.Common.{◌≡◌, drop}
use Rattle.std.specs.List.{list_any}
use Rattle.occ_log.specs.Logs.{row_at}
use Rattle.occ_core.specs.Folding.{holds_open}
use Rattle.occ_core.proofs.actives.has_open.Given as goal

-- no session before those that are left holds an open row
abbrev pub invariant-loop-place : goal.invariant-loop-place
invariant-loop-place g l = list_any (holds_open (row_at l.log)) (drop l.place l.sessions) ≡ list_any (holds_open (row_at l.log)) l.sessions
