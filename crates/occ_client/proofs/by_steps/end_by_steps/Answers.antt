use Rattle.std.proofs.Common.{refl}
use Rattle.occ_client.specs.Ends.{inside, outside}
use Rattle.occ_client.proofs.StepsFollow.{can_be_decided, stopped_is}
use Rattle.occ_client.proofs.by_steps.end_by_steps.Goals as goal

pub returns-in-Err-clause-step : goal.returns-in-Err-clause-step
returns-in-Err-clause-step g c = outside _ refl refl c.in-Err.ensures.step

pub end_entered-requires : goal.end_entered-requires
end_entered-requires g c = record { undecided = can_be_decided _ _ _ _ _ _ _ _ c.in-Ok.ensures.step }

pub returns-clause-step : goal.returns-clause-step
returns-clause-step g c = let e = c.end_entered.ensures in inside _ _ e.0 e.1 (stopped_is _) c.in-Ok.ensures.step e.2 e.3
