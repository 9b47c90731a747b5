use Rattle.occ_store.proofs.Ending.{Onward}
use Rattle.occ_store.proofs.workers.Worker.resume.Given as goal

-- what is left comes to the end that it came to at first
abbrev pub invariant-loop-tried : goal.invariant-loop-tried
invariant-loop-tried g l = Onward g.N.Name.named l.fn.self l.self
