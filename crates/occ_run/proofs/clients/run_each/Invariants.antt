use Rattle.std.proofs.Common.{◌≤◌, map, take}
use Rattle.occ_run.specs.Plans.{plan_of}
use Rattle.occ_run.specs.Clients.{own, Played}
use Rattle.occ_run.proofs.clients.run_each.Given as goal

-- the transactions so far, and how many of them were refused
abbrev pub invariant-loop-plan : goal.invariant-loop-plan
invariant-loop-plan g l = record {
  few : l.refused ≤ l.plan-index;
  played : Played g.N.Name.named g.L.Load.retries (own l.fn.session.session (map plan_of (take l.plan-index l.plans))) l.refused l.fn.session l.session;
}
