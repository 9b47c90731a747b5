use Rattle.std.proofs.Common.{ap, sym, length, codes}
use Rattle.std.proofs.lemmas.List.{length-map}
use Rattle.std.specs.List.{flat_map}
use Rattle.occ_sets.specs.LogRows.{log_row_of, log_of}
use Rattle.occ_print.specs.Books.{row_lines}
use Rattle.occ_text.specs.Headers.{count_text}
use Rattle.occ_print.proofs.Printing.{failed, front_line, line_then}
use Rattle.occ_print.proofs.log_printing.print_log.Goals as goal

pub returns-in_err-print_count-clause-printed : goal.returns-in_err-print_count-clause-printed
returns-in_err-print_count-clause-printed g c = λ opened.
    let r = c.from_residual.result in
    let log = c.args.log.now in
    failed _ r _ _ _ _ _ c.from_residual.ensures.1
    (front_line _ _ _ _ (count_text (codes "log") (length (log_of opened log))) _ (flat_map (row_lines c.args.schema.now) (log_of opened log)) (ap (count_text (codes "log")) (sym (length-map log (log_row_of opened)))) c.in_err-print_count.ensures.printed)

pub returns-clause-printed : goal.returns-clause-printed
returns-clause-printed g c = λ opened.
    let log = c.args.log.now in
    line_then c.print_rows.result _ _ _ _ _ _ (count_text (codes "log") (length (log_of opened log))) _ (flat_map (row_lines c.args.schema.now) (log_of opened log))
    (ap (count_text (codes "log")) (sym (length-map log (log_row_of opened)))) c.in_ok-print_count.ensures.printed (c.print_rows.ensures.printed opened)
