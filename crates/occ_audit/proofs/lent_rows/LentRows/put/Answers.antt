use Rattle.std.proofs.Common.{Some}
use Rattle.occ_types.specs.PlainData.{key_of}
use Rattle.occ_book.proofs.TableWrites.{other, seen-written}
use Rattle.occ_audit.proofs.Lending.{other-changed, others-still}
use Rattle.occ_audit.proofs.lent_rows.LentRows.put.Goals as goal

pub returns : goal.returns
returns g c =
    seen-written (key_of c.args.key.now) (Some c.args.row.now) c.args.self.now _ _ c.self.view_is
    (other-changed c.self.inside.numbers c.self.inside.others c.insert.new.self c.args.key.now (Some c.args.row) (other c.args.key.now c.in_default.not-Num) c.self.invariant c.in_ok-_was.ensures.updates.0)

pub invariant_of-self-2 : goal.invariant_of-self-2
invariant_of-self-2 g c =
    others-still c.self.inside.others c.insert.new.self c.args.key.now (Some c.args.row) (other c.args.key.now c.in_default.not-Num) c.self.invariant c.in_ok-_was.ensures.updates.0
