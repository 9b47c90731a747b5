use Rattle.std.proofs.Common.{◌≤◌, ◌-◌, ◌^◌, length, map}
use Rattle.occ_text.specs.Languages.{position_of}
use Rattle.occ_run.specs.Plans.{plan_of}
use Rattle.occ_run.proofs.PlansTaken.{PlansSoFar}
use Rattle.occ_run.proofs.workloads.take_plans.Given as goal

-- the lines of so many transactions were taken
abbrev pub invariant-loop-plans : goal.invariant-loop-plans
invariant-loop-plans g l = record {
  so_far : PlansSoFar l.settings l.schema (position_of l.fn.input (g.R.Read.remaining l.fn.reader)) (position_of l.input (g.R.Read.remaining l.reader)) (map plan_of l.plans.items);
  few : length l.plans.items ≤ 2 ^ 20;
}

abbrev pub decreases-loop-plans : goal.decreases-loop-plans
decreases-loop-plans g l = 2 ^ 20 - length l.plans.items
