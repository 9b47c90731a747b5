use Rattle.std.proofs.Common.{◌+◌, ◌<◌, ◌^◌, length, sym, subst, ap, ◌∙◌}
use Rattle.occ_book.proofs.Common.{BaseContent, AllFitIn}
use Rattle.occ_book.specs.Base.{written, written_over}
use Rattle.occ_book.proofs.Folding.{base-folded}
use Rattle.occ_book.proofs.base.Base.behind.Goals as goal

pub note_numbers-requires : goal.note_numbers-requires
note_numbers-requires g c =
    let old = c.args.self in
    (old.tables, subst (λ (b : BaseContent). AllFitIn old.tables b.sessions c.args.rows.now) (sym c.self.view_is) c.requires.fits)

pub place_behind-requires : goal.place_behind-requires
place_behind-requires g c =
    subst (λ (b : BaseContent). b.base.place + length c.args.rows.now < 2 ^ 64) (sym c.self.view_is) c.requires.places

pub returns : goal.returns
returns g c = λ opened.
    let origin = c.self.inside.origin in
    c.from_parts.ensures
    ∙ base-folded opened c.args.self (written_over origin c.self.inside.since) c.args.tables c.self.inside.numbers c.note_numbers.new.numbers c.self.inside.next c.place_behind.result c.args.rows.now
    c.self.view_is
    (c.requires.state ∙ ap (λ (b : BaseContent). record { tables = b.tables; state = written b.base.state c.args.rows.now }) (sym c.self.view_is))
    c.note_numbers.ensures c.place_behind.ensures
