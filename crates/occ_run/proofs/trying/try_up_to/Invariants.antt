use Rattle.occ_sets.specs.Operations.{ops_of}
use Rattle.occ_run.specs.Clients.{Tries}
use Rattle.occ_run.proofs.trying.try_up_to.Given as goal

-- the last try came behind so many that were backed up
abbrev pub invariant-loop-count : goal.invariant-loop-count
invariant-loop-count g l = Tries g.N.Name.named (ops_of l.operations) l.count l.last l.fn.session l.session
