use Rattle.occ_log.proofs.PhaseLists.{phases-none}
use Rattle.occ_log.proofs.phases.ReadPhases.new.Goals as goal

pub returns : goal.returns
returns g c = phases-none c.new.result.items c.new.ensures.items
