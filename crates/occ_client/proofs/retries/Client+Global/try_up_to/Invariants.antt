use Rattle.std.proofs.Common.{Ok}
use Rattle.occ_client.specs.Transacts.{CalledAtBoth, Tries, moment}
use Rattle.occ_client.proofs.retries.Client+Global.try_up_to.Given as goal

-- the tries so far
abbrev pub invariant-loop-tried : goal.invariant-loop-tried
invariant-loop-tried g l = goal.F-IsAlwaysCallable g l.body
    × Tries (CalledAtBoth g.F.FnMut) g.E.From.from_gives l.tried l.fn.body (moment l.fn.self l.fn.store) (Ok l.ended) l.body (moment l.self l.store)
