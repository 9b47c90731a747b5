use Rattle.occ_print.proofs.Printing.{printed_nothing}
use Rattle.occ_print.proofs.log_printing.print_write.Goals as goal

pub returns-in_err-write_line-clause-printed : goal.returns-in_err-write_line-clause-printed
returns-in_err-write_line-clause-printed g c =
    printed_nothing _ c.from_residual.result _ _ _ c.from_residual.ensures.1
