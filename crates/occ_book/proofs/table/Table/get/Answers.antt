use Rattle.std.proofs.Common.{sym, ap, ◌∙◌}
use Rattle.occ_types.specs.PlainData.{key_of}
use Rattle.occ_book.specs.Table.{row_under}
use Rattle.occ_book.proofs.TableWrites.{found-number, found-other, other}
use Rattle.occ_book.proofs.table.Table.get.Goals as goal

pub returns-in-Num : goal.returns-in-Num
returns-in-Num g c =
    c.get.ensures
    ∙ found-number c.in-Num.number c.self.inside.numbers c.self.inside.others.entries c.self.invariant
    ∙ (λ i. row_under (c.self.view_is i) (key_of (sym c.in-Num.is i)))

pub returns : goal.returns
returns g c =
    c.get-2.ensures.value
    ∙ found-other c.args.key.now c.self.inside.numbers c.self.inside.others.entries (other c.args.key.now c.in_default.not-Num)
    ∙ ap (λ rows. row_under rows (key_of c.args.key.now)) c.self.view_is
