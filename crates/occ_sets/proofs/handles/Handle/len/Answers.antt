use Rattle.std.proofs.Common.{subst}
use Rattle.occ_sets.specs.Sets.{WritesOnce}
use Rattle.occ_sets.proofs.WriteEntries.{none-WritesOnce}
use Rattle.occ_sets.proofs.handles.Handle.len.Goals as goal

-- nothing is written
pub returns-in-None-clause-once : goal.returns-in-None-clause-once
returns-in-None-clause-once g c = subst WritesOnce c.in-None.ensures none-WritesOnce
