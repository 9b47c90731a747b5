use Rattle.occ_sets.proofs.WriteEntries.{none-WritesOnce}
use Rattle.occ_sets.proofs.own_writes.OwnWrites.new.Goals as goal

-- nothing is written
pub invariant_of-result : goal.invariant_of-result
invariant_of-result g c = none-WritesOnce
