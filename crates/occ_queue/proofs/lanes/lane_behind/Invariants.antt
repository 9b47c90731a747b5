use Rattle.occ_queue.proofs.lanes.lane_behind.Given as goal

-- the number that the lane begins behind is the one that was handed in
abbrev pub ghosts-ends : goal.ghosts-ends
ghosts-ends g a = record { before = a.last }
