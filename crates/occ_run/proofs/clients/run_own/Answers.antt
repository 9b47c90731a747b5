use Rattle.std.proofs.Common.{ap}
use Rattle.occ_sets.specs.Operations.{ops_of}
use Rattle.occ_run.specs.Plans.{plan_of}
use Rattle.occ_run.proofs.Playing.{not_own, own_run}
use Rattle.occ_run.proofs.clients.run_own.Goals as goal

pub returns-then-not-is_own : goal.returns-then-not-is_own
returns-then-not-is_own g c = not_own g.N.Name.named _ c.args.number (plan_of c.args.plan.now) c.is_own.result c.args.session.now c.is_own.ensures c.if-not-is_own.true

pub returns : goal.returns
returns g c =
    own_run g.N.Name.named _ _ c.args.number (plan_of c.args.plan.now) _ c.is_own.result c.run_plan.result c.args.session.now c.run_plan.new.session c.args.job.now.own_retries (ap ops_of c.as_slice.ensures.value) c.is_own.ensures c.if-not-is_own.false c.run_plan.ensures
