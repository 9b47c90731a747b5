use Rattle.std.proofs.Common.{◌≡◌, Ok, take, ap, arith}
use Rattle.std.proofs.lemmas.List.{take_all}
use Rattle.std.specs.List.{flat_map}
use Rattle.occ_sets.specs.LogRows.{log_row_of, log_of}
use Rattle.occ_print.specs.Books.{row_lines}
use Rattle.occ_print.proofs.Printing.{failed, loop_more, loop_front, lines_same}
use Rattle.occ_text.specs.declared.faults.WriteFault.TheVariants as write_faults
use Rattle.occ_text.proofs.Causes.{caused}
use Rattle.occ_print.proofs.log_printing.print_rows.Goals as goal

pub returns-in_err-print_row-clause-printed : goal.returns-in_err-print_row-clause-printed
returns-in_err-print_row-clause-printed g c = λ opened.
    failed _ c.from_residual.result _ _ _ _ _ c.from_residual.ensures.1
    (loop_front (row_lines c.args.schema.now) (log_row_of opened) _ _ _ _ _ _ c.args.log.now c.loop-row.row-index c.row-item.result c.loop-row-test.true c.row-item.is
    (c.loop-row.invariant opened) (c.in_err-print_row.ensures.printed opened))

pub loop-row-preserved : goal.loop-row-preserved
loop-row-preserved g c = λ opened.
    loop_more (row_lines c.args.schema.now) (log_row_of opened) _ _ _ _ _ _ c.args.log.now c.loop-row.row-index c.row-item.result c.loop-row-test.true c.row-item.is
    (c.loop-row.invariant opened) (c.in_ok-print_row.ensures.printed opened)

pub returns-clause-printed : goal.returns-clause-printed
returns-clause-printed g c = λ opened.
    let log = c.args.log.now in
    let past = c.loop-row-test.false in
    let all : take c.loop-row.row-index log ≡ log = take_all c.loop-row.row-index log (omega arith) in
    lines_same (Ok tt) _ _ _ _ _ _ (ap (λ rows. flat_map (row_lines c.args.schema.now) (log_of opened rows)) all) (c.loop-row.invariant opened)

pub returns-in_err-print_row-clause-cause : goal.returns-in_err-print_row-clause-cause
returns-in_err-print_row-clause-cause g c = caused c.in_err-print_row.field-0.0 write_faults.Write c.from_residual.result _ c.from_residual.ensures.1 c.in_err-print_row.ensures.cause
