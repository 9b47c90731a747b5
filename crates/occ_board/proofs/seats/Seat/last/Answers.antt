use Rattle.std.proofs.Common.{rules, sym, ap, ◌∙◌}
use Rattle.occ_board.proofs.Kept.{word-loaded, still-reads}
use Rattle.occ_board.proofs.seats.Seat.last.Goals as goal

pub load-word-requires : goal.load-word-requires
load-word-requires g c = let i = c.self.invariant in (search rules, search rules, word-loaded _ _ _ _ _ i.3 i.4 i.1)

pub invariant_of-self : goal.invariant_of-self
invariant_of-self g c = let i = c.self.invariant in let told = c.load-word.ensures.2 _ (ap (λ m. m.0) i.3) (sym i.4) in let still = still-reads _ _ _ _ i.3 told.4 in
    (c.load-word.ensures.0 ∙ i.0, i.1, i.2, still.0, ap (λ s. s.session) still.1 ∙ i.4)
