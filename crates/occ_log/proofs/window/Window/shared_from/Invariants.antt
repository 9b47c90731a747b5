use Rattle.std.proofs.Common.{◌≡◌, ◌++◌, drop}
use Rattle.occ_log.proofs.window.Window.shared_from.Given as goal

-- what is shared so far, before the sets that are still to come
abbrev pub invariant-loop-place : goal.invariant-loop-place
invariant-loop-place g l = l.shared.items ++ drop l.place l.self-inside.sets.items ≡ drop l.skip l.self-inside.sets.items
