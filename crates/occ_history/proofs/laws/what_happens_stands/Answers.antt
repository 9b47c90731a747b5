use Rattle.occ_history.proofs.Standing.{what_happens_stands}
use Rattle.occ_history.proofs.laws.what_happens_stands.Goals as goal

pub returns : goal.returns
returns c = what_happens_stands
