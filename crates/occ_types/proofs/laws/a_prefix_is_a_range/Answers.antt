use Rattle.occ_types.proofs.Beginnings.{prefix_is_range}
use Rattle.occ_types.proofs.laws.a_prefix_is_a_range.Goals as goal

pub returns : goal.returns
returns c = prefix_is_range
