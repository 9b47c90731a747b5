use Rattle.occ_sets.specs.Operations.{ops_of}
use Rattle.occ_store.specs.Bodies.{Performing}
use Rattle.occ_store.proofs.WorkerTries.{tries_list, nothing_then}
use Rattle.occ_store.proofs.workers.Worker.try_list.Goals as goal

pub returns-clause-tried : goal.returns-clause-tried
returns-clause-tried g c =
    tries_list g.N.Name.named c.args.tries (ops_of c.args.operations.now) c.args.self.now c.try_and_count.new.self c.in_ok-ended.ended c.tn.result c.tn.ensures c.in_ok-ended.ensures.ended

pub returns-clause-committed : goal.returns-clause-committed
returns-clause-committed g c =
    λ some. nothing_then g.N.Name.named (Performing g.N.Name.named (ops_of c.args.operations.now)) c.args.tries c.args.self.now c.try_and_count.new.self c.in_ok-ended.ended c.in_ok-ended.ensures.ended
