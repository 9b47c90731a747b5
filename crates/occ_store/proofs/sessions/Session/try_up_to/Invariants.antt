use Rattle.occ_store.specs.Bodies.{Goes}
use Rattle.occ_store.specs.Clients.{TriedSo}
use Rattle.occ_store.proofs.sessions.Session.try_up_to.Given as goal

-- the tries so far, and that the body keeps to what it may make
abbrev pub invariant-loop-tried : goal.invariant-loop-tried
invariant-loop-tried g l = TriedSo (g.B.Body.makes l.fn.body) l.tried l.fn.self l.awaited l.self
    × Goes (g.B.Body.makes l.body) (g.B.Body.makes l.fn.body)
