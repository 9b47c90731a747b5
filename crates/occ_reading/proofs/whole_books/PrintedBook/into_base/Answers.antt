use Rattle.std.proofs.Common.{◌≡◌, List, length, ap, sym, subst, ◌∙◌}
use Rattle.occ_reading.proofs.Common.{BaseContent, log_of, printed_book, without_case}
use Rattle.occ_reading.proofs.LeftBases.{replayed_whole, rows_fit, written_whole}
use Rattle.occ_book.specs.Base.{AllFitIn, written}
use Rattle.occ_model.specs.Step.{folded}
use Rattle.occ_sets.specs.declared.log_rows.LogRow.{LogRow}
use Rattle.occ_reading.proofs.whole_books.PrintedBook.into_base.Goals as goal

pub behind-requires-clause-fits : goal.behind-requires-clause-fits
behind-requires-clause-fits g c =
    let book = c.args.self.book in
    let header = c.args.self.header in
    let sizes = c.requires.base_sizes in
    subst (λ (rows : List (LogRow g.row.A.Denot (Unit {0}))). AllFitIn book.base.tables book.base.sessions rows) (sym c.as_slice.ensures.value)
    (subst (λ n. AllFitIn n book.base.sessions book.log.items) (sym sizes.0)
    (subst (λ n. AllFitIn (length header.schema) n book.log.items) (sym sizes.1)
    (rows_fit header.limits.version header.schema header.limits.sessions book.log.items c.requires.fits.log)))

pub behind-requires-clause-state : goal.behind-requires-clause-state
behind-requires-clause-state g c =
    let book = c.args.self.book in
    λ i. record {
      tables = (c.requires.tables ∙ sym c.requires.base_sizes.0) i;
      state = sym (written_whole (printed_book c.args.self) c.as_slice.result.now (ap log_of c.as_slice.ensures.value) c.in-Ok.ensures) i;
    }

pub returns-clause-folded : goal.returns-clause-folded
returns-clause-folded g c =
    let book = c.args.self.book in
    c.behind.ensures without_case
    ∙ (λ i. record {
      tables = c.requires.base_sizes.0 i;
      sessions = c.requires.base_sizes.1 i;
      base = folded book.base.base (log_of (c.as_slice.ensures.value i));
    })

pub returns-clause-state : goal.returns-clause-state
returns-clause-state g c =
    ap (λ (b : BaseContent). b.base.state) (c.behind.ensures without_case)
    ∙ ap (λ (rows : List (LogRow g.row.A.Denot (Unit {0}))). (folded c.args.self.book.base.base (log_of rows)).state) c.as_slice.ensures.value
    ∙ replayed_whole (printed_book c.args.self) c.in-Ok.ensures
