use Rattle.std.proofs.Common.{Some}
use Rattle.occ_types.specs.PlainData.{key_of}
use Rattle.occ_store.proofs.Submittable.{writes_one}
use Rattle.occ_store.proofs.sessions.Session.put.Goals as goal

pub invariant_of-self : goal.invariant_of-self
invariant_of-self g c =
    writes_one g.N.Name.named c.self.inside.seat.board c.self.inside.seat.seen c.self.inside.sender c.put.result c.self.inside.transaction c.put.new.self (c.args.table, key_of c.args.key) (Some c.args.row) c.put.ensures.ok c.put.ensures.err c.self.invariant
