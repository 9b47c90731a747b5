use Rattle.std.proofs.Common.{ℕ}
use Rattle.occ_sets.specs.Operations.{ops_of}
use Rattle.occ_store.specs.Workers.{WorkerView, Runs}
use Rattle.occ_store.proofs.WorkerTries.{ok_after, run_stops}
use Rattle.occ_store.proofs.workers.Worker.run.Goals as goal

pub returns-clause-committed : goal.returns-clause-committed
returns-clause-committed g c =
    ok_after g.N.Name.named c.args.self.now c.checkpoint_if_due.new.self c.checkpoint_if_due.ensures.0 c.checkpoint_if_due.ensures.1 c.checkpoint_if_due.ensures.2 c.checkpoint_if_due.ensures.3
    (λ (tn : ℕ) (begun : WorkerView). Runs g.N.Name.named c.args.tries (ops_of c.args.operations.now) begun tn c.run_checked.new.self) c.run_checked.result c.run_checked.ensures.committed

pub returns-clause-refused : goal.returns-clause-refused
returns-clause-refused g c =
    run_stops g.N.Name.named c.args.self.now c.checkpoint_if_due.new.self c.checkpoint_if_due.ensures.0 c.checkpoint_if_due.ensures.1 c.checkpoint_if_due.ensures.2 c.checkpoint_if_due.ensures.3
    c.args.tries (ops_of c.args.operations.now) c.run_checked.new.self c.run_checked.result c.run_checked.ensures.few
