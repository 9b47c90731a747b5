use Rattle.std.proofs.Common.{◌≡◌, sym, subst}
use Rattle.occ_history.specs.History.{Client}
use Rattle.occ_store.specs.Names.{lane_of}
use Rattle.occ_store.specs.Sessions.{MayBeSubmitted}
use Rattle.occ_store.specs.Transactions.{TransactionView}
use Rattle.occ_store.proofs.sessions.Session.catch_up.Goals as goal

pub invariant_of-self : goal.invariant_of-self
invariant_of-self g c =
    subst (λ (t : TransactionView). (c.self.inside.seat.board ≡ g.N.Name.named.board) × (c.self.inside.seat.seen.session ≡ t.session) × (c.self.inside.sender.lane ≡ lane_of g.N.Name.named t.session)
    × MayBeSubmitted c.self.inside.sender t.draft × (t.front.party ≡ Client t.session)) (sym c.catch_up.ensures.seen) c.self.invariant
