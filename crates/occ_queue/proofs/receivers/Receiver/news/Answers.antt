use Rattle.occ_queue.proofs.Passing.{tells}
use Rattle.occ_queue.proofs.receivers.Receiver.news.Goals as goal

pub another-requires-clause-rule : goal.another-requires-clause-rule
another-requires-clause-rule g c = tells _ _
