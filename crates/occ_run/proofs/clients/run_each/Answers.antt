use Rattle.std.proofs.Common.{◌≡◌, map, take, ap, arith}
use Rattle.std.proofs.lemmas.List.{take_all}
use Rattle.occ_run.specs.Plans.{plan_of}
use Rattle.occ_run.specs.Clients.{own}
use Rattle.occ_run.proofs.Playing.{nothing_played, played_more, played_same, counted_few}
use Rattle.occ_run.proofs.clients.run_each.Goals as goal

pub loop-plan-init : goal.loop-plan-init
loop-plan-init g c = record { few = omega arith; played = nothing_played g.N.Name.named _ c.args.session.now }

pub loop-plan-preserved : goal.loop-plan-preserved
loop-plan-preserved g c = record {
  few = counted_few c.loop-plan.refused _ c.loop-plan.plan-index c.in_ok-denied.denied c.loop-plan.invariant.few c.counted-refused.ensures;
  played = played_more plan_of g.N.Name.named _ _ _ c.args.plans.now c.loop-plan.plan-index c.plan-item.result c.loop-plan.refused _ _ c.args.session.now c.loop-plan.session c.run_own.new.session c.loop-plan-test.true c.plan-item.is c.session-number.ensures c.loop-plan.invariant.played c.in_ok-denied.ensures c.counted-refused.ensures;
}

pub returns : goal.returns
returns g c =
    let past = c.loop-plan-test.false in
    let plans = c.args.plans.now in
    let all : take c.loop-plan.plan-index plans ≡ plans = take_all c.loop-plan.plan-index plans (omega arith) in
    played_same {named = g.N.Name.named} _ _ _ c.args.session.now c.loop-plan.session (ap (λ l. own c.args.session.now.session (map plan_of l)) all) c.loop-plan.invariant.played
