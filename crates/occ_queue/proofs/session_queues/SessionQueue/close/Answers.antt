use Rattle.std.proofs.Common.{rules}
use Rattle.occ_queue.proofs.Turns.{may_close}
use Rattle.occ_queue.proofs.session_queues.SessionQueue.close.Goals as goal

pub push-requires : goal.push-requires
push-requires g c = may_close c.args.self.now c.next-number.result c.next-number.ensures.law (search rules) c.next-number.ensures.number
