use Rattle.occ_log.proofs.PhaseViews.{session-none, once-none}
use Rattle.occ_log.proofs.session_phases.SessionPhases.new.Goals as goal

pub invariant_of-result : goal.invariant_of-result
invariant_of-result g c = once-none c.new.result.items c.new.ensures.items

pub returns : goal.returns
returns g c = session-none c.new.result.items c.new.ensures.items
