use Rattle.std.proofs.Common.{rules, ◌≤◌, ap, ◌∙◌, subst}
use Rattle.occ_board.proofs.Kept.{counter-loaded, still-reads}
use Rattle.occ_board.proofs.seats.Seat.start.Goals as goal

pub load-requires : goal.load-requires
load-requires g c = (search rules, search rules, counter-loaded _ _ _ _ c.self.invariant.3)

pub invariant_of-self : goal.invariant_of-self
invariant_of-self g c = let i = c.self.invariant in let told = c.load.ensures.2 _ (ap (λ m. m.0) i.3) in let still = still-reads _ _ _ _ i.3 told.0 in
    (c.load.ensures.0 ∙ i.0, i.1, i.2, still.0, ap (λ s. s.session) still.1 ∙ i.4)

pub returns-clause-rises : goal.returns-clause-rises
returns-clause-rises g c = let i = c.self.invariant in let told = c.load.ensures.2 _ (ap (λ m. m.0) i.3) in
    (subst (λ s. s.seen.counter ≤ c.load.result) c.self.view_is told.1, subst (λ s. s.seen.last.tn ≤ c.load.result) c.self.view_is told.2)

pub returns-clause-fits : goal.returns-clause-fits
returns-clause-fits g c = let told = c.load.ensures.2 _ (ap (λ m. m.0) c.self.invariant.3) in told.3
