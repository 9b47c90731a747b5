use Rattle.occ_open.specs.Replies.{forgetting}
use Rattle.occ_store.proofs.Submittable.{forgets_one}
use Rattle.occ_store.proofs.sessions.Session.abandon_in.Goals as goal

pub invariant_of-self : goal.invariant_of-self
invariant_of-self g c =
    forgets_one g.N.Name.named c.self.inside.seat.board c.self.inside.seat.seen c.self.inside.sender c.self.inside.transaction c.abandon_in.new.self (forgetting c.abandon_in.result) c.abandon_in.ensures.left c.abandon_in.ensures.own c.self.invariant
