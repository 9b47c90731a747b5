use Rattle.occ_print.specs.Books.{header_of, header_lines, base_lines}
use Rattle.occ_print.proofs.Printing.{failed, front_before, lines_then}
use Rattle.occ_print.proofs.books.print_opening.Goals as goal

pub returns-in_err-print_header-clause-printed : goal.returns-in_err-print_header-clause-printed
returns-in_err-print_header-clause-printed g c =
    failed _ c.from_residual.result _ _ _ _ _ c.from_residual.ensures.1
    (front_before _ _ _ _ (header_lines (header_of c.args.limits c.args.schema.now)) (base_lines c.args.schema.now c.args.base.now.base) c.in_err-print_header.ensures.printed)

pub returns-clause-printed : goal.returns-clause-printed
returns-clause-printed g c =
    lines_then c.print_base.result _ _ _ _ _ _ (header_lines (header_of c.args.limits c.args.schema.now)) (base_lines c.args.schema.now c.args.base.now.base)
    c.in_ok-print_header.ensures.printed c.print_base.ensures.printed
