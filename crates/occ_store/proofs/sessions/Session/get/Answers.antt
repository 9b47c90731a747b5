use Rattle.std.proofs.Common.{subst}
use Rattle.occ_types.specs.PlainData.{key_of}
use Rattle.occ_types.specs.Question.{One}
use Rattle.occ_open.specs.Replies.{reading}
use Rattle.occ_store.specs.Sessions.{SessionView}
use Rattle.occ_store.specs.Transactions.{AsksOrStarves}
use Rattle.occ_store.specs.Tries.{lent}
use Rattle.occ_store.proofs.Submittable.{sees_one}
use Rattle.occ_store.proofs.sessions.Session.get.Goals as goal

pub invariant_of-self : goal.invariant_of-self
invariant_of-self g c =
    sees_one g.N.Name.named c.self.inside.seat.board c.self.inside.seat.seen c.self.inside.sender c.self.inside.transaction c.get.new.self c.get.ensures.asks.0 c.get.ensures.own c.self.invariant

pub returns-clause-asks : goal.returns-clause-asks
returns-clause-asks g c =
    subst (λ (v : SessionView). AsksOrStarves g.N.Name.named (lent v) (One c.args.table (key_of c.args.key.now)) (reading c.get.result) c.get.new.self)
    c.self.view_is c.get.ensures.asks
