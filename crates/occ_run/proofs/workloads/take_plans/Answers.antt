use Rattle.std.proofs.Common.{◌≡◌, ◌+◌, ◌^◌, ◌≤◌, [], length, map, ap, refl, subst, sym, ◌∙◌, arith}
use Rattle.std.proofs.lemmas.List.{length-map, length_push}
use Rattle.occ_run.specs.Plans.{plan_of}
use Rattle.occ_run.proofs.PlansTaken.{no_plans, plan_more, plans_fail, plans_end, room_bounds}
use Rattle.occ_run.proofs.workloads.take_plans.Goals as goal

pub loop-plans-init : goal.loop-plans-init
loop-plans-init g c =
    let none : c.new-plans.result.items ≡ [] = c.new-plans.ensures.items in
    record { so_far = no_plans c.args.settings c.args.schema.now (map plan_of c.new-plans.result.items) (ap (map plan_of) none); few = subst (λ l. length l ≤ 2 ^ 20) (sym none) (omega arith) }

pub take_plan-requires-clause-before : goal.take_plan-requires-clause-before
take_plan-requires-clause-before g c = let few = c.loop-plans.invariant.few in let long = c.loop-plans.plans.ok.0 in let count = c.len.ensures in omega arith

pub loop-plans-preserved : goal.loop-plans-preserved
loop-plans-preserved g c =
    let n = rw c.in-Some.is at c.in_ok-plan.ensures.taken in
    let items = c.loop-plans.plans.items in
    let pushed = c.in_ok-push-in-Some.ensures.items in
    let room = room_bounds c.args.settings.retries (c.len.result + 1) n.2 in
    let more : length c.push.new.self.items ≡ length items + 1 = ap length pushed ∙ length_push items c.in-Some.plan in
    let long : length (map plan_of items) ≡ c.len.result = length-map items plan_of ∙ sym c.loop-plans.plans.ok.0 ∙ sym c.len.ensures in
    record { so_far = plan_more plan_of c.args.settings c.args.schema.now items c.push.new.self.items c.in-Some.plan c.len.result pushed long c.loop-plans.invariant.so_far n; few = omega (arith, more, room) }

pub returns-in_err-plan-clause-taken : goal.returns-in_err-plan-clause-taken
returns-in_err-plan-clause-taken g c =
    let items = c.loop-plans.plans.items in
    let long : length (map plan_of items) ≡ c.len.result = length-map items plan_of ∙ sym c.loop-plans.plans.ok.0 ∙ sym c.len.ensures in
    plans_fail plan_of (λ plans. map plan_of plans.items) c.args.settings c.args.schema.now items c.len.result c.in_err-plan.field-0.0 c.from_residual.result _ c.from_residual.ensures.1 long c.loop-plans.invariant.so_far c.in_err-plan.ensures.taken

pub returns-in-None-clause-taken : goal.returns-in-None-clause-taken
returns-in-None-clause-taken g c =
    let n = rw c.in-None.is at c.in_ok-plan.ensures.taken in
    plans_end (λ plans. map plan_of plans.items) c.args.settings c.args.schema.now c.loop-plans.plans _ _ refl c.loop-plans.invariant.so_far n
