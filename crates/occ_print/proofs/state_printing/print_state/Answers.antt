use Rattle.std.proofs.Common.{ap, map, codes}
use Rattle.std.specs.FinMap.{entries}
use Rattle.occ_print.specs.Books.{row_count, entry_line}
use Rattle.occ_print.specs.declared.sections.Section.TheVariants as sections
use Rattle.occ_text.specs.Headers.{count_text}
use Rattle.occ_print.proofs.Printing.{failed, front_line, line_then}
use Rattle.occ_print.proofs.state_printing.print_state.Goals as goal

pub returns-in_err-print_count-clause-printed : goal.returns-in_err-print_count-clause-printed
returns-in_err-print_count-clause-printed g c =
    let r = c.from_residual.result in
    let state = c.args.tables.now.state in
    failed _ r _ _ _ _ _ c.from_residual.ensures.1
    (front_line _ _ _ _ (count_text (codes "state") (row_count state)) _ (map (entry_line sections.Store c.args.schema.now) (entries state)) (ap (count_text (codes "state")) c.len.ensures) c.in_err-print_count.ensures.printed)

pub returns-clause-printed : goal.returns-clause-printed
returns-clause-printed g c =
    let state = c.args.tables.now.state in
    line_then c.print_all_rows.result _ _ _ _ _ _ (count_text (codes "state") (row_count state)) _ (map (entry_line sections.Store c.args.schema.now) (entries state))
    (ap (count_text (codes "state")) c.len.ensures) c.in_ok-print_count.ensures.printed c.print_all_rows.ensures.printed
