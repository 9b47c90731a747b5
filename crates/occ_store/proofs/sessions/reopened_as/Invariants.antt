use Rattle.std.proofs.Common.{◌≡◌}
use Rattle.occ_store.proofs.sessions.reopened_as.Given as goal

-- the writes are those of the request
abbrev pub invariant-loop : goal.invariant-loop
invariant-loop g l =
    (goal.iterator-loop g).can_next l.iterator' × (goal.iterator-loop g).is_finite l.iterator' × (l.writes ≡ l.fn.writes)
