use Rattle.std.proofs.Common.{◌≡◌}
use Rattle.occ_store.proofs.sessions.Session.submit_patiently.Given as goal

-- nothing changes while it is refused
abbrev pub invariant-loop-paused : goal.invariant-loop-paused
invariant-loop-paused g l = l.self ≡ l.fn.self
