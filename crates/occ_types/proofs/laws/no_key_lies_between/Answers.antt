use Rattle.occ_types.proofs.After.{no_key_between}
use Rattle.occ_types.proofs.laws.no_key_lies_between.Goals as goal

pub returns : goal.returns
returns c = no_key_between
