use Rattle.std.proofs.Common.{Result, Err, refl}
use Rattle.occ_text.specs.declared.trouble.Trouble.{Trouble}
use Rattle.occ_text.specs.declared.trouble.Trouble.TheVariants as troubles
use Rattle.occ_run.specs.declared.runs.Ran as code
use Rattle.occ_run.specs.Runs.{opened_by}
use Rattle.occ_run.proofs.Ending.{opened_so, unopened}
use Rattle.occ_run.proofs.runs.run_workload.Goals as goal

pub returns : goal.returns
returns g c = opened_so c.args.book (g.W.Write.contents c.args.writer.now) (g.W.Write.contents c.run_in.new.writer) _ _ _ _ c.args.workload.settings.limits c.run_in.result c.in-Ok.ensures.settings c.run_in.ensures

pub returns-in_default : goal.returns-in_default
returns-in_default g c =
    let result : Result (code.Ran g.row.A.Denot) Trouble = Err troubles.Memory in
    unopened c.args.book (g.W.Write.contents c.args.writer.now) (opened_by c.args.workload.settings c.args.workload.schema) _ _ c.args.workload.settings.limits result refl
