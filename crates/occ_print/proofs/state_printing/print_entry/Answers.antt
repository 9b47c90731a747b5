use Rattle.occ_print.proofs.Printing.{printed_nothing}
use Rattle.occ_print.proofs.state_printing.print_entry.Goals as goal

pub returns-in_err-entry_line-clause-printed : goal.returns-in_err-entry_line-clause-printed
returns-in_err-entry_line-clause-printed g c =
    printed_nothing _ c.from_residual.result _ _ _ c.from_residual.ensures.1
