use Rattle.occ_history.proofs.Standing.{what_is_seen}
use Rattle.occ_history.proofs.laws.what_is_seen_is_a_history.Goals as goal

pub returns : goal.returns
returns c = what_is_seen
