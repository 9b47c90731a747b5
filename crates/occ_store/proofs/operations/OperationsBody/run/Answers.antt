use Rattle.occ_sets.specs.Operations.{ops_of}
use Rattle.occ_store.proofs.Performing.{performing_party}
use Rattle.occ_store.proofs.operations.OperationsBody.run.Goals as goal

pub returns-clause-own : goal.returns-clause-own
returns-clause-own g c =
    performing_party g.N.Name.named (ops_of c.args.self.now.list.now) c.args.work.now c.perform_all.result c.perform_all.new.transaction c.perform_all.ensures
