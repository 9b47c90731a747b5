use Rattle.std.proofs.Common.{ap}
use Rattle.occ_text.specs.Line.{Source}
use Rattle.occ_run.proofs.Ending.{read_refused, emptied, read_whole}
use Rattle.occ_run.proofs.runs.workload_from.Goals as goal

pub returns-in_err-input : goal.returns-in_err-input
returns-in_err-input g c = read_refused c.from_residual.result _ _ c.from_residual.ensures.1

pub returns : goal.returns
returns g c = read_whole c.read_workload.result _ _ _ _ _ _ (ap (λ (s : Source). s.unread) c.in_ok-input.ensures) (ap (λ (s : Source). s.number) c.in_ok-input.ensures) (emptied c.read_workload.result c.read_workload.new.input c.read_workload.ensures.cause) c.read_workload.ensures.taken
