use Rattle.occ_store.specs.Workers.{count_ended}
use Rattle.occ_store.proofs.WorkerTries.{ended_counted}
use Rattle.occ_store.proofs.workers.Worker.try_and_count.Goals as goal

pub returns-clause-ended : goal.returns-clause-ended
returns-clause-ended g c =
    ended_counted g.N.Name.named (g.B.Body.makes c.args.body.now) c.args.most c.args.self.now c.try_up_to.new.self c.count_end.new.self
    (count_ended c.in_ok-ended.ended c.try_up_to.new.self.checkpoints) c.in_ok-ended.ended c.count_end.ensures c.in_ok-ended.ensures.ended
