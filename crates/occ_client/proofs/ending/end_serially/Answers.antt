use Rattle.occ_client.proofs.StepsFollow.{refused_so}
use Rattle.occ_client.proofs.ending.end_serially.Goals as goal

pub returns-in-Err-clause-step : goal.returns-in-Err-clause-step
returns-in-Err-clause-step g c = refused_so _ _ _ _ _ c.handed_back.ensures.fault c.in-Err.ensures.step
