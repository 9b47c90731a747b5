use Rattle.std.proofs.Common.{◌≡◌, ◌+◌}
use Rattle.occ_store.proofs.sessions.Session.verdict_after.Given as goal

-- nothing but the seat moves, which polled once before each pause
abbrev pub invariant-loop-paused : goal.invariant-loop-paused
invariant-loop-paused g l = (l.self ≡ record l.fn.self { seat = l.self.seat }) × (l.self.seat ≡ record l.fn.self.seat { last = l.self.seat.last; polls = l.fn.self.seat.polls + l.paused })
