use Rattle.std.proofs.Common.{arith, sym, ◌∙◌}
use Rattle.occ_history.proofs.Asked.{asks_cut}
use Rattle.occ_history.proofs.stories.Story.client_and_lane.Goals as goal

pub split_seat-lane-requires : goal.split_seat-lane-requires
split_seat-lane-requires g c = let i = c.self.invariant in let words = i.2 in let p = c.take-pass.ensures.pass in (p.0 ∙ sym i.1, omega arith, asks_cut _ _ _ _ p.1 c.requires.1)
