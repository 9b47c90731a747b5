use Rattle.std.proofs.Common.{ap, ◌∙◌, option_copied}
use Rattle.occ_book.specs.Table.{row_under}
use Rattle.occ_types.specs.Key.{Num}
use Rattle.occ_audit.proofs.Lending.{number-found}
use Rattle.occ_audit.proofs.lent_rows.LentRows.get_number.Goals as goal

pub returns : goal.returns
returns g c =
    ap option_copied c.copied.ensures
    ∙ (ap option_copied c.get.ensures
    ∙ number-found c.self.inside.numbers c.self.inside.others.entries c.args.number c.self.invariant)
    ∙ ap (λ rows. row_under rows (Num c.args.number)) c.self.view_is
