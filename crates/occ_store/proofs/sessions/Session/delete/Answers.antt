use Rattle.std.proofs.Common.{None}
use Rattle.occ_types.specs.PlainData.{key_of}
use Rattle.occ_store.proofs.Submittable.{writes_one}
use Rattle.occ_store.proofs.sessions.Session.delete.Goals as goal

pub invariant_of-self : goal.invariant_of-self
invariant_of-self g c =
    writes_one g.N.Name.named c.self.inside.seat.board c.self.inside.seat.seen c.self.inside.sender c.delete.result c.self.inside.transaction c.delete.new.self (c.args.table, key_of c.args.key) None c.delete.ensures.ok c.delete.ensures.err c.self.invariant
