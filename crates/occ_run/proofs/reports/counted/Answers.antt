use Rattle.occ_sets.specs.LogRows.{log_row_of}
use Rattle.occ_run.proofs.Reporting.{one_counted, none_counted}
use Rattle.occ_run.proofs.reports.counted.Goals as goal

pub returns-then-is_of-clause-counted : goal.returns-then-is_of-clause-counted
returns-then-is_of-clause-counted g c = λ opened. one_counted c.args.rows c.args.session (log_row_of opened c.args.row.now) c.is_of.result (c.is_of.ensures opened) c.if-is_of.true

pub returns-else-is_of-clause-counted : goal.returns-else-is_of-clause-counted
returns-else-is_of-clause-counted g c = λ opened. none_counted c.args.rows c.args.session (log_row_of opened c.args.row.now) c.is_of.result (c.is_of.ensures opened) c.if-is_of.false
