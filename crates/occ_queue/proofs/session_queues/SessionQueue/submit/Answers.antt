use Rattle.std.proofs.Common.{rules, subst}
use Rattle.occ_queue.specs.Items.{item_of}
use Rattle.occ_queue.specs.Numbering.{IsInTurn}
use Rattle.occ_queue.proofs.Turns.{may_submit}
use Rattle.occ_queue.proofs.session_queues.SessionQueue.submit.Goals as goal

pub push-requires : goal.push-requires
push-requires g c = may_submit c.args.self.now (item_of c.args.item) (subst IsInTurn c.self.view_is c.self.invariant) (search rules)
