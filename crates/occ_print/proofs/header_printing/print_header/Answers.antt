use Rattle.std.proofs.Common.{ap, map}
use Rattle.occ_text.specs.Headers.{limits_lines, table_text}
use Rattle.occ_print.proofs.Printing.{failed, front_before, lines_then, lines_same}
use Rattle.occ_print.proofs.header_printing.print_header.Goals as goal

pub returns-in_err-print_limits-clause-printed : goal.returns-in_err-print_limits-clause-printed
returns-in_err-print_limits-clause-printed g c =
    failed _ c.from_residual.result _ _ _ _ _ c.from_residual.ensures.1
    (front_before _ _ _ _ (limits_lines c.args.limits) (map table_text c.args.schema.now) c.in_err-print_limits.ensures.printed)

pub returns-clause-printed : goal.returns-clause-printed
returns-clause-printed g c =
    lines_then c.print_tables.result _ _ _ _ _ _ (limits_lines c.args.limits) (map table_text c.args.schema.now) c.in_ok-print_limits.ensures.printed
    (lines_same c.print_tables.result _ _ _ _ _ (map table_text c.args.schema.now) (ap (map table_text) c.tables.ensures.value) c.print_tables.ensures.printed)
