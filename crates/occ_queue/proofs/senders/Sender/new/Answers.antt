use Rattle.std.proofs.Common.{ap}
use Rattle.occ_queue.specs.Items.{items_of}
use Rattle.occ_queue.proofs.Ends.{unused_sender}
use Rattle.occ_queue.proofs.senders.Sender.new.Goals as goal

pub invariant_of-result : goal.invariant_of-result
invariant_of-result g c =
    let rest = unused_sender _ _ _ _ c.requires.number.0 c.requires.number.1 (ap items_of c.requires.unused.0) (ap items_of c.requires.unused.1) in
    (c.requires.pass.0, c.requires.pass.1, c.requires.sends, c.requires.number.0, rest.0, rest.1, rest.2)
