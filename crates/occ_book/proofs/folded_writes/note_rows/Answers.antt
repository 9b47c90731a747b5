use Rattle.std.proofs.Common.{◌+◌, drop, sym, ap, subst, ◌∙◌}
use Rattle.occ_book.proofs.Common.{drop_at, at_drop_all, apply, AllFitIn, written}
use Rattle.occ_book.specs.Folded.{due_writes}
use Rattle.occ_book.proofs.folded_writes.note_rows.Goals as goal

pub returns-in_err-note_row-clause-placed : goal.returns-in_err-note_row-clause-placed
returns-in_err-note_row-clause-placed g c = λ tables sessions are all.
    let here = drop_at c.args.rows.now c.loop-row.row-index c.row-item.result c.row-item.result c.loop-row-test.true c.row-item.is in
    let before = c.loop-row.invariant.placed tables sessions are all in
    c.note_row.ensures.placed tables before.0 (subst (AllFitIn tables sessions) here before.1).0.placed

pub loop-row-preserved : goal.loop-row-preserved
loop-row-preserved g c =
    let rows = c.args.rows.now in
    let i = c.loop-row.row-index in
    let here = drop_at rows i c.row-item.result c.row-item.result c.loop-row-test.true c.row-item.is in
    let due = due_writes c.loop-row.map.entries c.loop-row.due.items in
    record {
      same = c.note_row.ensures.same ∙ c.loop-row.invariant.same;
      placed = λ tables sessions are all.
          let before = c.loop-row.invariant.placed tables sessions are all in
          let fit = subst (AllFitIn tables sessions) here before.1 in
          (c.note_row.ensures.placed tables before.0 fit.0.placed, fit.1);
      there = c.in_ok-note_row.ensures.there;
      left = λ state.
          ap (λ s. written s (drop (i + 1) rows)) (c.in_ok-note_row.ensures.noted state)
          ∙ sym (ap (written (apply state due)) here)
          ∙ c.loop-row.invariant.left state;
    }

pub returns-clause-placed : goal.returns-clause-placed
returns-clause-placed g c = λ tables sessions are all. (c.loop-row.invariant.placed tables sessions are all).0

pub returns-clause-noted : goal.returns-clause-noted
returns-clause-noted g c = λ state.
    sym (at_drop_all (written (apply state (due_writes c.loop-row.map.entries c.loop-row.due.items))) c.args.rows.now c.loop-row.row-index c.loop-row-test.false)
    ∙ c.loop-row.invariant.left state
