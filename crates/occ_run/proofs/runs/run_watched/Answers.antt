use Rattle.std.proofs.Common.{map}
use Rattle.occ_run.specs.Plans.{plan_of}
use Rattle.occ_run.proofs.Ending.{unread_ends, ran}
use Rattle.occ_run.proofs.runs.run_watched.Goals as goal

pub returns-in_err-workload : goal.returns-in_err-workload
returns-in_err-workload g c = unread_ends c.args.book _ _ _ c.in_err-workload.field-0.0 c.from_residual.result c.from_residual.ensures.1 c.in_err-workload.ensures

pub returns : goal.returns
returns g c = ran c.args.book (g.W.Write.contents c.args.writer.now) (g.W.Write.contents c.run_workload.new.writer) (g.R.Read.remaining c.args.reader.now) (g.R.Read.remaining c.workload_from.new.reader) c.run_workload.result c.in_ok-workload.workload.settings c.in_ok-workload.workload.schema (map plan_of c.in_ok-workload.workload.plans.items) c.in_ok-workload.ensures c.run_workload.ensures
