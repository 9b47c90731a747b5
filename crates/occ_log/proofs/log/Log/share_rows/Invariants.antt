use Rattle.std.proofs.Common.{◌≡◌, ◌++◌, drop}
use Rattle.occ_log.proofs.log.Log.share_rows.Given as goal

-- what is shared so far, before the rows that are still to come
abbrev pub invariant-loop-place : goal.invariant-loop-place
invariant-loop-place g l = l.shared.items ++ drop l.place l.self-inside.rows.items ≡ l.self-inside.rows.items
