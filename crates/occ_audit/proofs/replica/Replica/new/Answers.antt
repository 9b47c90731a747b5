use Rattle.std.proofs.Common.{ap}
use Rattle.occ_audit.proofs.Common.{state_of}
use Rattle.occ_audit.proofs.replica.Replica.new.Goals as goal

pub returns : goal.returns
unfolding state_of
returns g c = ap state_of c.new.ensures.empty
