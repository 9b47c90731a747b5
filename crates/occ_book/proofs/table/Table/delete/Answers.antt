use Rattle.std.proofs.Common.{None}
use Rattle.occ_types.specs.PlainData.{key_of}
use Rattle.occ_book.proofs.TableWrites.{number-deleted, other-written, still-others, other, carried, seen-written}
use Rattle.occ_book.proofs.table.Table.delete.Goals as goal

pub returns-in-Num : goal.returns-in-Num
returns-in-Num g c =
    carried c.args.key.now c.in-Num.number None c.args.self.now _ _ c.in-Num.is c.self.view_is
    (number-deleted c.in-Num.number c.self.inside.numbers c.remove-deleted.new.self c.self.inside.others.entries c.self.invariant c.len-rows.ensures.ascends c.remove-deleted.ensures.new)

pub returns : goal.returns
returns g c =
    seen-written (key_of c.args.key.now) None c.args.self.now _ _ c.self.view_is
    (other-written c.self.inside.numbers c.self.inside.others c.delete_row.new.map c.args.key.now None (other c.args.key.now c.in_default.not-Num) c.self.invariant c.delete_row.ensures)

pub invariant_of-self-2 : goal.invariant_of-self-2
invariant_of-self-2 g c =
    still-others c.self.inside.others c.delete_row.new.map c.args.key.now None (other c.args.key.now c.in_default.not-Num) c.self.invariant c.delete_row.ensures
