use Rattle.occ_sets.specs.LogRows.{log_row_of}
use Rattle.occ_print.proofs.Printing.{printed_nothing}
use Rattle.occ_run.proofs.Reporting.{row_skipped, row_printed}
use Rattle.occ_run.proofs.reports.write_row.Goals as goal

pub returns-then-not-is_of-clause-printed : goal.returns-then-not-is_of-clause-printed
returns-then-not-is_of-clause-printed g c = λ opened. row_skipped c.args.session (log_row_of opened c.args.row.now) c.is_of.result _ _ (c.is_of.ensures opened) c.if-not-is_of.true

pub returns-in_err-standing_line-clause-printed : goal.returns-in_err-standing_line-clause-printed
returns-in_err-standing_line-clause-printed g c = λ opened. printed_nothing _ c.from_residual.result _ _ _ c.from_residual.ensures.1

pub returns-clause-printed : goal.returns-clause-printed
returns-clause-printed g c = λ opened.
    row_printed c.push_line.result c.args.session (log_row_of opened c.args.row.now) c.is_of.result _ _ _ _ _ (c.is_of.ensures opened) c.if-not-is_of.false (c.in_ok-standing_line.ensures opened) c.push_line.ensures.printed
