use Rattle.occ_log.proofs.Common.{IsNew, all_listed}
use Rattle.occ_log.proofs.listing.Listing.new.Given as goal

abbrev pub invariant-loop : goal.invariant-loop
invariant-loop g l = IsNew l.counter (all_listed l.lists.items)
