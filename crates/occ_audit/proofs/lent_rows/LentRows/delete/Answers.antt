use Rattle.std.proofs.Common.{None}
use Rattle.occ_types.specs.PlainData.{key_of}
use Rattle.occ_book.proofs.TableWrites.{carried, other, seen-written}
use Rattle.occ_audit.proofs.Lending.{number-gone, other-changed, others-still}
use Rattle.occ_audit.proofs.lent_rows.LentRows.delete.Goals as goal

pub returns-in-Num : goal.returns-in-Num
returns-in-Num g c =
    carried c.args.key.now c.in-Num.number None c.args.self.now _ _ c.in-Num.is c.self.view_is
    (number-gone c.self.inside.numbers c.remove-deleted.new.self c.self.inside.others.entries c.in-Num.number c.self.invariant c.len-rows.ensures.ascends c.remove-deleted.ensures.new)

pub returns : goal.returns
returns g c =
    seen-written (key_of c.args.key.now) None c.args.self.now _ _ c.self.view_is
    (other-changed c.self.inside.numbers c.self.inside.others c.remove-deleted-2.new.self c.args.key.now None (other c.args.key.now c.in_default.not-Num) c.self.invariant c.remove-deleted-2.ensures.updates.0)

pub invariant_of-self-2 : goal.invariant_of-self-2
invariant_of-self-2 g c =
    others-still c.self.inside.others c.remove-deleted-2.new.self c.args.key.now None (other c.args.key.now c.in_default.not-Num) c.self.invariant c.remove-deleted-2.ensures.updates.0
