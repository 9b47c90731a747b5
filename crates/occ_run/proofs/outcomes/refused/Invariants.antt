use Rattle.std.proofs.Common.{◌≡◌, length}
use Rattle.occ_run.specs.Clients.{AllPlayed}
use Rattle.occ_run.proofs.outcomes.refused.Given as goal

-- the sessions so far
abbrev pub invariant-loop-place : goal.invariant-loop-place
invariant-loop-place g l = record {
  many : length l.counts.items ≡ l.place;
  played : AllPlayed g.N.Name.named g.L.Load.retries g.L.Load.plans l.fn.shared.story.log 1 l.counts.items;
  same : l.shared ≡ l.fn.shared;
}
