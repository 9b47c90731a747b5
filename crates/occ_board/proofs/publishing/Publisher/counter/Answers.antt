use Rattle.std.proofs.Common.{rules, ap}
use Rattle.occ_board.proofs.Kept.{counter-stored}
use Rattle.occ_board.proofs.publishing.Publisher.counter.Goals as goal

pub store-requires : goal.store-requires
store-requires g c = let i = c.self.invariant in (
  search rules,
  search rules,
  counter-stored _ _ _ _ _ _ (ap (λ p. p.words) c.self.view_is) i.2 i.3 i.4 c.requires.0 c.requires.1,
)
