use Rattle.std.proofs.Common.{◌++◌, ℕ, ap, ◌∙◌}
use Rattle.std.specs.FinMap.{get}
use Rattle.std.specs.List.{flat_map}
use Rattle.occ_sets.specs.LogRows.{log_of}
use Rattle.occ_print.proofs.Printing.{failed, printed_nothing, front_line, front_before, line_then, lines_then, lines_same}
use Rattle.occ_run.specs.Reports.{session_line, row_lines, mark_lines}
use Rattle.occ_run.proofs.reports.write_session.Goals as goal

pub returns-in_err-session_line-clause-printed : goal.returns-in_err-session_line-clause-printed
returns-in_err-session_line-clause-printed g c = λ opened. printed_nothing _ c.from_residual.result _ _ _ c.from_residual.ensures.1

pub returns-in_err-push_line-clause-printed : goal.returns-in_err-push_line-clause-printed
returns-in_err-push_line-clause-printed g c = λ opened.
    failed _ c.from_residual-in_err-push_line.result _ _ _ _ _ c.from_residual-in_err-push_line.ensures.1
    (front_line _ _ _ _ _ _ _ (c.in_ok-session_line.ensures ∙ ap (λ (n : ℕ). session_line c.args.session n c.args.refused) (c.rows_of.ensures opened)) c.in_err-push_line.ensures.printed)

pub returns-in_err-write_rows-clause-printed : goal.returns-in_err-write_rows-clause-printed
returns-in_err-write_rows-clause-printed g c = λ opened.
    let r = c.from_residual-in_err-write_rows.result in
    let rows = flat_map (row_lines c.args.session) (log_of opened c.args.log.now) in
    let marks = mark_lines (get c.args.marks.now.marks c.args.session) in
    line_then r _ _ _ _ _ _ _ _ (rows ++ marks) (c.in_ok-session_line.ensures ∙ ap (λ (n : ℕ). session_line c.args.session n c.args.refused) (c.rows_of.ensures opened)) c.in_ok-push_line.ensures.printed
    (failed _ r _ _ _ _ _ c.from_residual-in_err-write_rows.ensures.1 (front_before _ _ _ _ rows marks (c.in_err-write_rows.ensures.printed opened)))

pub returns-clause-printed : goal.returns-clause-printed
returns-clause-printed g c = λ opened.
    let r = c.write_mark.result in
    let rows = flat_map (row_lines c.args.session) (log_of opened c.args.log.now) in
    let marks = mark_lines (get c.args.marks.now.marks c.args.session) in
    line_then r _ _ _ _ _ _ _ _ (rows ++ marks) (c.in_ok-session_line.ensures ∙ ap (λ (n : ℕ). session_line c.args.session n c.args.refused) (c.rows_of.ensures opened)) c.in_ok-push_line.ensures.printed
    (lines_then r _ _ _ _ _ _ rows marks (c.in_ok-write_rows.ensures.printed opened) (lines_same r _ _ _ _ _ marks (ap mark_lines c.get.ensures) c.write_mark.ensures.printed))
