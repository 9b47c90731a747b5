use Rattle.std.proofs.Common.{drop, Result}
use Rattle.occ_types.specs.declared.fault.Fault.{Fault}
use Rattle.occ_sets.specs.Operations.{ops_of}
use Rattle.occ_store.specs.Transactions.{TransactionView}
use Rattle.occ_store.specs.Bodies.{Performing}
use Rattle.occ_store.proofs.operations.perform_all.Given as goal

-- what the rest comes to now is what all of them come to
abbrev pub invariant-loop-operation : goal.invariant-loop-operation
invariant-loop-operation g l = (ran : Result (Unit {0}) Fault) (after : TransactionView) → Performing g.N.Name.named (ops_of (drop l.operation-index l.operations)) l.transaction ran after
    → Performing g.N.Name.named (ops_of l.operations) l.fn.transaction ran after
