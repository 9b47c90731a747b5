use Rattle.occ_log.proofs.PhaseViews.{session-none, once-none}
use Rattle.occ_log.proofs.session_phases.SessionPhases.clear.Goals as goal

pub invariant_of-self : goal.invariant_of-self
invariant_of-self g c = once-none c.clear.new.self.items c.clear.ensures.items

pub returns : goal.returns
returns g c = session-none c.clear.new.self.items c.clear.ensures.items
