use Rattle.occ_queue.proofs.Passing.{begins}
use Rattle.occ_queue.proofs.lanes.lane_behind.Goals as goal

pub ruled-requires-clause-rule : goal.ruled-requires-clause-rule
ruled-requires-clause-rule g c = begins
