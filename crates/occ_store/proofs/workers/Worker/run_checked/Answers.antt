use Rattle.std.proofs.Common.{inl}
use Rattle.occ_types.specs.declared.fault.Fault.{Fault}
use Rattle.occ_sets.specs.Operations.{ops_of}
use Rattle.occ_store.specs.Workers.{RunsOut}
use Rattle.occ_store.proofs.WorkerTries.{at_error, runs_out_after, runs_after}
use Rattle.occ_store.proofs.workers.Worker.run_checked.Goals as goal

pub returns-in_err-tn-clause-few : goal.returns-in_err-tn-clause-few
returns-in_err-tn-clause-few g c =
    at_error (λ (fault : Fault). RunsOut g.N.Name.named c.args.tries (ops_of c.args.operations.now) c.args.self.now fault c.try_list.new.self)
    c.from_residual.result c.in_err-tn.field-0.0 c.from_residual.ensures.1 (inl c.in_err-tn.ensures.few)

pub returns-in_default-clause-few : goal.returns-in_default-clause-few
returns-in_default-clause-few g c =
    runs_out_after g.N.Name.named c.args.tries (ops_of c.args.operations.now) c.args.self.now c.try_list.new.self c.run_alone.new.self c.in_ok-tn.field-0
    c.in_default.is c.in_ok-tn.ensures.tried c.run_alone.result c.run_alone.ensures.few c.run_alone.ensures.fault

pub returns-in_default-clause-committed : goal.returns-in_default-clause-committed
returns-in_default-clause-committed g c =
    runs_after g.N.Name.named c.args.tries (ops_of c.args.operations.now) c.args.self.now c.try_list.new.self c.run_alone.new.self c.in_ok-tn.field-0
    c.in_default.is c.in_ok-tn.ensures.tried c.run_alone.result c.run_alone.ensures.committed
