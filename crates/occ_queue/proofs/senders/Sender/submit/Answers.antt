use Rattle.std.proofs.Common.{rules, subst}
use Rattle.occ_queue.specs.Items.{item_of}
use Rattle.occ_queue.specs.Lanes.{Known, InTurn}
use Rattle.occ_queue.proofs.Ends.{may_submit}
use Rattle.occ_queue.proofs.senders.Sender.submit.Goals as goal

pub push-requires : goal.push-requires
push-requires g c = may_submit c.args.self.now (item_of c.args.item) (subst (λ (k : Known). InTurn k.before k.pushed) c.self.view_is c.self.invariant.5) (search rules)
