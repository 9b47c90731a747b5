use Rattle.occ_types.specs.PlainData.{object_of}
use Rattle.occ_sets.specs.OwnWrites.{written}
use Rattle.occ_sets.proofs.Placed.{once_after}
use Rattle.occ_sets.proofs.own_writes.OwnWrites.insert.Goals as goal

-- no object comes to be written twice
pub invariant_of-self : goal.invariant_of-self
invariant_of-self g c =
    let done = c.insert_in in
    once_after done.result (written c.self.inside.content) (written done.new.content) (object_of c.args.write.0) c.args.write.1 done.ensures.ok done.ensures.err c.self.invariant
