use Rattle.std.proofs.Common.{◌≡◌, ◌+◌, suc}
use Rattle.std.specs.Prelude.{drop}
use Rattle.occ_store.specs.Accounts.{are_numbered}
use Rattle.occ_store.proofs.accounts.are_numbered.Given as goal

-- those that are left tell what all of them tell
abbrev pub invariant-loop-place : goal.invariant-loop-place
invariant-loop-place g l = are_numbered (suc (l.workers + l.place)) (drop l.place l.lanes) (drop l.place l.sessions) ≡ are_numbered (suc l.workers) l.lanes l.sessions
