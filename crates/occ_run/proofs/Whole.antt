-- A workload that wasn't read.
use Rattle.std.proofs.Common.{◌≡◌, Result, Ok, Err, sym, subst}
use Rattle.std.specs.Result.{IsErrAnd}
use Rattle.occ_text.specs.declared.faults.ReadFault.{ReadFault}
use Rattle.occ_run.specs.declared.workloads.Workload as code
use Rattle.occ_text.specs.Languages.{Position, FailsFrom}
use Rattle.occ_run.specs.Workloads.{Version, loads}
use Rattle.occ_run.specs.Plans.{WorkloadTaken}

pub workload_fails : {Z : Type 0} (fault : ReadFault) (result : Result (code.Workload Z) ReadFault) (a b : Position) → IsErrAnd result (λ e. e ≡ fault) → FailsFrom loads fault Version a b.left → WorkloadTaken result a b
workload_fails fault (Ok workload) a b is t = absurd is
workload_fails fault (Err e) a b is t = subst (λ (f : ReadFault). FailsFrom loads f Version a b.left) (sym is) t
