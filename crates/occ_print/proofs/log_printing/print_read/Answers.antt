use Rattle.occ_print.proofs.Printing.{failed, printed_nothing, front_line, line_then}
use Rattle.occ_print.proofs.log_printing.print_read.Goals as goal

pub returns-in_err-read_line-clause-printed : goal.returns-in_err-read_line-clause-printed
returns-in_err-read_line-clause-printed g c =
    printed_nothing _ c.from_residual.result _ _ _ c.from_residual.ensures.1

pub returns-in_err-push_line-clause-printed : goal.returns-in_err-push_line-clause-printed
returns-in_err-push_line-clause-printed g c =
    failed _ c.from_residual-in_err-push_line.result _ _ _ _ _ c.from_residual-in_err-push_line.ensures.1 (front_line _ _ _ _ _ _ _ c.in_ok-read_line.ensures c.in_err-push_line.ensures.printed)

pub returns-clause-printed : goal.returns-clause-printed
returns-clause-printed g c = line_then c.print_answer.result _ _ _ _ _ _ _ _ _ c.in_ok-read_line.ensures c.in_ok-push_line.ensures.printed c.print_answer.ensures.printed
