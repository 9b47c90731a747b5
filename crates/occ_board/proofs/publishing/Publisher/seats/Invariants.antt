use Rattle.std.proofs.Common.{◌≡◌, map}
use Rattle.std.specs.List.{range_with_len}
use Rattle.occ_board.specs.Rule.{fresh}
use Rattle.occ_board.proofs.publishing.Publisher.seats.Given as goal

-- the seats so far
abbrev pub invariant-loop-place : goal.invariant-loop-place
invariant-loop-place g l = l.seats.items ≡ map (fresh l.self.board) (range_with_len 1 l.place)
