use Rattle.std.proofs.Common.{arith, sym, ◌∙◌}
use Rattle.occ_history.proofs.Asked.{asks_visitor}
use Rattle.occ_history.proofs.stories.Story.visitor.Goals as goal

pub split_seat-pass-requires : goal.split_seat-pass-requires
split_seat-pass-requires g c = let i = c.self.invariant in let words = i.2 in (i.0 ∙ sym i.1, omega arith, asks_visitor _ _ _ i.3)
