use Rattle.occ_log.proofs.Listed.{new-more}
use Rattle.occ_log.proofs.listing.Listing.new.Goals as goal

pub loop-preserved : goal.loop-preserved
loop-preserved g c = new-more c.loop.counter c.loop.lists.items c.push.new.self.items c.new.result c.new.ensures.items c.in_ok-push.ensures.items c.loop.invariant
