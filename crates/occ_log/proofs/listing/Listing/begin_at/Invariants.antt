use Rattle.occ_log.proofs.Common.{all_listed}
use Rattle.occ_log.proofs.Listed.{Begun}
use Rattle.occ_log.proofs.listing.Listing.begin_at.Given as goal

-- the lists before the place begin with the first one
abbrev pub invariant-loop-place : goal.invariant-loop-place
invariant-loop-place g l = Begun l.first l.place (all_listed l.initial.self-inside.lists.items) (all_listed l.self-inside.lists.items)
