use Rattle.std.proofs.Common.{sym, subst}
use Rattle.occ_sets.specs.Sets.{WritesOnce}
use Rattle.occ_sets.proofs.WriteEntries.{none-WritesOnce}
use Rattle.occ_sets.proofs.own_writes.OwnWrites.with_capacity.Goals as goal

-- nothing is written
pub invariant_of-result : goal.invariant_of-result
invariant_of-result g c = subst WritesOnce (sym c.in_ok-content.ensures) none-WritesOnce
