use Rattle.std.proofs.Common.{Some}
use Rattle.occ_types.specs.Key.{Num}
use Rattle.occ_book.proofs.TableWrites.{seen-written}
use Rattle.occ_audit.proofs.Lending.{number-set}
use Rattle.occ_audit.proofs.lent_rows.LentRows.put_number.Goals as goal

pub returns : goal.returns
returns g c =
    seen-written (Num c.args.number) (Some c.args.row.now) c.args.self.now _ _ c.self.view_is
    (number-set c.self.inside.numbers c.insert.new.self c.self.inside.others.entries c.args.number c.args.row c.self.invariant c.in_ok-_was.ensures.ok)
