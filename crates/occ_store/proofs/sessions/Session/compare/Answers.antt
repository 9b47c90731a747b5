use Rattle.std.proofs.Common.{◌≡◌, sym, ap, subst, ◌∙◌}
use Rattle.std.specs.Prelude.{◌⊎◌}
use Rattle.occ_history.specs.History.{Client, Begins}
use Rattle.occ_store.specs.Names.{lane_of}
use Rattle.occ_store.specs.Sessions.{SessionView, MayBeSubmitted}
use Rattle.occ_store.specs.Transactions.{TransactionView}
use Rattle.occ_store.proofs.sessions.Session.compare.Goals as goal

pub invariant_of-self : goal.invariant_of-self
invariant_of-self g c =
    subst (λ (t : TransactionView). (c.self.inside.seat.board ≡ g.N.Name.named.board) × (c.self.inside.seat.seen.session ≡ t.session) × (c.self.inside.sender.lane ≡ lane_of g.N.Name.named t.session)
    × MayBeSubmitted c.self.inside.sender t.draft × (t.front.party ≡ Client t.session)) (sym c.compare.ensures.same.0) c.self.invariant

pub invariant_of-other : goal.invariant_of-other
invariant_of-other g c =
    subst (λ (t : TransactionView). (c.other.inside.seat.board ≡ g.N.Name.named.board) × (c.other.inside.seat.seen.session ≡ t.session) × (c.other.inside.sender.lane ≡ lane_of g.N.Name.named t.session)
    × MayBeSubmitted c.other.inside.sender t.draft × (t.front.party ≡ Client t.session)) (sym c.compare.ensures.same.1) c.other.invariant

pub returns-clause-order : goal.returns-clause-order
returns-clause-order g c =
    subst (λ (two : SessionView × SessionView). Begins two.0.front two.1.front ⊎ Begins two.1.front two.0.front) (λ i. (c.self.view_is i, c.other.view_is i)) c.compare.ensures.order
