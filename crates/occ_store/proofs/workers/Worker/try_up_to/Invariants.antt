use Rattle.std.proofs.Common.{◌≡◌, ℕ, suc}
use Rattle.occ_store.specs.Bodies.{Goes}
use Rattle.occ_store.specs.Workers.{Tried}
use Rattle.occ_store.proofs.workers.Worker.try_up_to.Given as goal

-- the tries so far, and that the body keeps to what it may make
abbrev pub invariant-loop-tried : goal.invariant-loop-tried
invariant-loop-tried g l = ((before : ℕ) × (l.tried ≡ suc before) × Tried g.N.Name.named (g.B.Body.makes l.fn.body) before l.fn.self l.ended l.self)
    × Goes (g.B.Body.makes l.body) (g.B.Body.makes l.fn.body)
    × (l.self.checkpoints ≡ l.fn.self.checkpoints)
