use Rattle.std.proofs.Common.{◌+◌, ◌<◌, ◌^◌, length, sym, subst}
use Rattle.occ_book.proofs.Common.{BaseContent, AllFitIn}
use Rattle.occ_book.specs.Base.{written_over}
use Rattle.occ_book.proofs.Folding.{base-folded}
use Rattle.occ_book.proofs.base.Base.fold.Goals as goal

pub note_numbers-requires : goal.note_numbers-requires
note_numbers-requires g c =
    let old = c.args.self.now in
    (old.tables, subst (λ (b : BaseContent). AllFitIn old.tables b.sessions c.args.rows.now) (sym c.self.view_is) c.requires.fits)

pub place_behind-self-inside-requires : goal.place_behind-self-inside-requires
place_behind-self-inside-requires g c =
    subst (λ (b : BaseContent). b.base.place + length c.args.rows.now < 2 ^ 64) (sym c.self.view_is) c.requires.places

pub invariant_of-self : goal.invariant_of-self
invariant_of-self g c =
    let old = c.args.self.now in
    c.fold.ensures.placed c.self.inside.origin.tables old.sessions c.self.invariant (subst (λ (b : BaseContent). AllFitIn b.tables old.sessions c.args.rows.now) (sym c.self.view_is) c.requires.fits)

pub invariant_of-self-2 : goal.invariant_of-self-2
invariant_of-self-2 g c =
    let old = c.args.self.now in
    c.fold.ensures.placed c.self.inside.origin.tables old.sessions c.self.invariant (subst (λ (b : BaseContent). AllFitIn b.tables old.sessions c.args.rows.now) (sym c.self.view_is) c.requires.fits)

pub returns-clause-ok : goal.returns-clause-ok
returns-clause-ok g c = λ opened.
    let origin = c.self.inside.origin in
    base-folded opened c.args.self.now (written_over origin c.self.inside.since) (written_over origin c.fold.new.self) c.self.inside.numbers c.note_numbers.new.numbers c.self.inside.next c.place_behind-self-inside.result c.args.rows.now
    c.self.view_is (λ i. record { tables = origin.tables; state = c.in_ok-fold.ensures.ok i }) c.note_numbers.ensures c.place_behind-self-inside.ensures
