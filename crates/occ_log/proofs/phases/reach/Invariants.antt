use Rattle.std.proofs.Common.{◌≡◌, ◌+◌, ◌-◌, length}
use Rattle.occ_log.specs.Phases.{phases_of}
use Rattle.occ_log.proofs.phases.reach.Given as goal

-- no phase comes or goes
abbrev pub invariant-loop-alloc : goal.invariant-loop-alloc
invariant-loop-alloc g l = phases_of l.sessions.items ≡ phases_of l.initial.sessions.items

-- how many lists are missing
abbrev pub decreases-loop-alloc : goal.decreases-loop-alloc
decreases-loop-alloc g l = l.session + 1 - length l.sessions.items
