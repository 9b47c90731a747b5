use Rattle.std.proofs.Common.{sym, ap, ◌∙◌, option_copied}
use Rattle.occ_types.specs.PlainData.{key_of}
use Rattle.occ_book.specs.Table.{row_under}
use Rattle.occ_book.proofs.TableWrites.{other}
use Rattle.occ_audit.proofs.Lending.{other-found}
use Rattle.occ_audit.proofs.lent_rows.LentRows.get.Goals as goal

pub returns-in-Num : goal.returns-in-Num
returns-in-Num g c = c.get_number.ensures ∙ ap (λ key. row_under c.args.self.now (key_of key)) (sym c.in-Num.is)

pub returns : goal.returns
returns g c =
    ap option_copied (c.copied.ensures ∙ c.get.ensures.value)
    ∙ other-found c.self.inside.numbers c.self.inside.others.entries c.args.key.now (other c.args.key.now c.in_default.not-Num)
    ∙ ap (λ rows. row_under rows (key_of c.args.key.now)) c.self.view_is
