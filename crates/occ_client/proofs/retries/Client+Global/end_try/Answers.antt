use Rattle.occ_client.specs.Transacts.{moment}
use Rattle.occ_client.proofs.Transacting.{end_fails}
use Rattle.occ_client.proofs.retries.Client+Global.end_try.Goals as goal

pub returns-in-Err : goal.returns-in-Err
returns-in-Err g c = end_fails _ (moment c.commit.new.self c.commit.new.store) _ _ _ c.in-Err.ensures.step c.in-Err.ensures.err c.give_up_for.ensures.gives_up c.give_up_for.ensures.why
