use Rattle.std.proofs.Common.{◌++◌, map}
use Rattle.std.specs.List.{flat_map}
use Rattle.occ_sets.specs.LogRows.{log_row_of}
use Rattle.occ_print.specs.Books.{row_line, read_lines, write_line}
use Rattle.occ_print.proofs.Printing.{failed, printed_nothing, front_line, front_before, line_then, lines_then}
use Rattle.occ_print.proofs.log_printing.print_row.Goals as goal

pub returns-in_err-row_line-clause-printed : goal.returns-in_err-row_line-clause-printed
returns-in_err-row_line-clause-printed g c = λ opened.
    printed_nothing _ c.from_residual.result _ _ _ c.from_residual.ensures.1

pub returns-in_err-push_line-clause-printed : goal.returns-in_err-push_line-clause-printed
returns-in_err-push_line-clause-printed g c = λ opened.
    failed _ c.from_residual-in_err-push_line.result _ _ _ _ _ c.from_residual-in_err-push_line.ensures.1 (front_line _ _ _ _ _ _ _ (c.in_ok-row_line.ensures opened) c.in_err-push_line.ensures.printed)

pub returns-in_err-print_reads-clause-printed : goal.returns-in_err-print_reads-clause-printed
returns-in_err-print_reads-clause-printed g c = λ opened.
    let r = c.from_residual-in_err-print_reads.result in
    let row = log_row_of opened c.args.row.now in
    let schema = c.args.schema.now in
    let reads = flat_map (read_lines schema) row.reads in
    let writes = map (write_line schema) row.writes in
    line_then r _ _ _ _ _ _ (row_line row) _ (reads ++ writes) (c.in_ok-row_line.ensures opened) c.in_ok-push_line.ensures.printed
    (failed _ r _ _ _ _ _ c.from_residual-in_err-print_reads.ensures.1
    (front_before _ _ _ _ reads writes c.in_err-print_reads.ensures.printed))

pub returns-clause-printed : goal.returns-clause-printed
returns-clause-printed g c = λ opened.
    let r = c.print_writes.result in
    let row = log_row_of opened c.args.row.now in
    let schema = c.args.schema.now in
    let reads = flat_map (read_lines schema) row.reads in
    let writes = map (write_line schema) row.writes in
    line_then r _ _ _ _ _ _ (row_line row) _ (reads ++ writes) (c.in_ok-row_line.ensures opened) c.in_ok-push_line.ensures.printed
    (lines_then r _ _ _ _ _ _ reads writes
    c.in_ok-print_reads.ensures.printed
    c.print_writes.ensures.printed)
