use Rattle.std.proofs.Common.{◌+◌, drop, sym, ap, subst, ◌∙◌}
use Rattle.occ_book.proofs.Common.{drop_at, at_drop_all, AllFitIn, numbered, Marked}
use Rattle.occ_book.proofs.base.note_numbers.Goals as goal

pub note_number-requires : goal.note_number-requires
note_number-requires g c =
    let here = drop_at c.args.rows.now c.loop-row.row-index c.row-item.result c.row-item.result c.loop-row-test.true c.row-item.is in
    (subst (AllFitIn c.loop-row.invariant.fits.0 c.loop-row.numbers.sessions) here c.loop-row.invariant.fits.1).0.session

pub loop-row-preserved : goal.loop-row-preserved
loop-row-preserved g c =
    let rows = c.args.rows.now in
    let i = c.loop-row.row-index in
    let here = drop_at rows i c.row-item.result c.row-item.result c.loop-row-test.true c.row-item.is in
    let tables = c.loop-row.invariant.fits.0 in
    let fit = subst (AllFitIn tables c.loop-row.numbers.sessions) here c.loop-row.invariant.fits.1 in
    record {
      sessions = ap (λ (m : Marked). m.sessions) c.note_number.ensures ∙ c.loop-row.invariant.sessions;
      fits = (tables, subst (λ (m : Marked). AllFitIn tables m.sessions (drop (i + 1) rows)) (sym c.note_number.ensures) fit.1);
      left =
          ap (λ (m : Marked). numbered m.marks (drop (i + 1) rows)) c.note_number.ensures
          ∙ sym (ap (numbered c.loop-row.numbers.marks) here)
          ∙ c.loop-row.invariant.left;
    }

pub returns : goal.returns
returns g c =
    let marks = sym (at_drop_all (numbered c.loop-row.numbers.marks) c.args.rows.now c.loop-row.row-index c.loop-row-test.false) ∙ c.loop-row.invariant.left in
    λ i. record { sessions = c.loop-row.invariant.sessions i; marks = marks i }
