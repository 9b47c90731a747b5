use Rattle.std.proofs.Common.{◌≡◌, suc}
use Rattle.std.specs.Prelude.{drop}
use Rattle.occ_store.specs.Accounts.{are_hired}
use Rattle.occ_store.proofs.accounts.are_hired.Given as goal

-- those that are left tell what all of them tell
abbrev pub invariant-loop-place : goal.invariant-loop-place
invariant-loop-place g l = are_hired (suc l.place) (drop l.place l.workers) ≡ are_hired 1 l.workers
