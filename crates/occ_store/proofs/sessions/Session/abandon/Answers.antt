use Rattle.std.proofs.Common.{subst}
use Rattle.occ_open.specs.Replies.{forgetting}
use Rattle.occ_store.specs.Sessions.{SessionView}
use Rattle.occ_store.specs.Transactions.{AbandonsIn}
use Rattle.occ_store.specs.Tries.{lent}
use Rattle.occ_store.proofs.Submittable.{forgets_one}
use Rattle.occ_store.proofs.sessions.Session.abandon.Goals as goal

pub invariant_of-self : goal.invariant_of-self
invariant_of-self g c =
    forgets_one g.N.Name.named c.self.inside.seat.board c.self.inside.seat.seen c.self.inside.sender c.self.inside.transaction c.abandon.new.self (forgetting c.abandon.result) c.abandon.ensures.left c.abandon.ensures.own c.self.invariant

pub returns-clause-forgets : goal.returns-clause-forgets
returns-clause-forgets g c =
    subst (λ (v : SessionView). AbandonsIn g.N.Name.named (lent v) (forgetting c.abandon.result) c.abandon.new.self.front) c.self.view_is c.abandon.ensures.forgets
