use Rattle.std.proofs.Common.{map, ap, ◌∙◌}
use Rattle.occ_run.specs.Plans.{plan_of}
use Rattle.occ_run.proofs.Playing.{each_played}
use Rattle.occ_run.proofs.clients.run_plans.Goals as goal

pub returns : goal.returns
returns g c = each_played g.N.Name.named _ c.args.session.now.session _ _ c.run_each.result _ _ (ap (map plan_of) c.as_slice.ensures.value ∙ c.args.job.now.own_plans) c.run_each.ensures
