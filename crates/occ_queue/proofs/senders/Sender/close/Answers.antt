use Rattle.std.proofs.Common.{rules}
use Rattle.occ_queue.proofs.Ends.{may_close}
use Rattle.occ_queue.proofs.senders.Sender.close.Goals as goal

pub push-requires : goal.push-requires
push-requires g c = may_close c.args.self.now c.next-number.result c.next-number.ensures.in_turn (search rules) c.next-number.ensures.number
