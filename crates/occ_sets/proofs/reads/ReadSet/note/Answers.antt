use Rattle.std.proofs.Common.{◌<◌, length, arith}
use Rattle.occ_sets.specs.Sets.{is_full}
use Rattle.occ_sets.proofs.Observations.{room_for}
use Rattle.occ_sets.proofs.Refusals.{told_memory}
use Rattle.occ_sets.proofs.reads.ReadSet.note.Goals as goal

-- there was room for it
pub returns-clause-fault : goal.returns-clause-fault
returns-clause-fault g c =
    let few : length c.args.self.now < 256 = omega (arith, c.len.ensures.value) in
    told_memory c.push.result (is_full c.args.self.now) (room_for (length c.args.self.now) few) c.push.ensures.memory
