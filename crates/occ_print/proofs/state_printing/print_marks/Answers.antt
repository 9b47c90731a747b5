use Rattle.std.proofs.Common.{ap, map, codes}
use Rattle.std.specs.FinMap.{entries}
use Rattle.occ_print.specs.Books.{number_line}
use Rattle.occ_print.specs.declared.sections.Section.TheVariants as sections
use Rattle.occ_text.specs.Headers.{count_text}
use Rattle.occ_print.proofs.Printing.{failed, front_line, line_then}
use Rattle.std.specs.FinMap as finite
use Rattle.occ_print.proofs.state_printing.print_marks.Goals as goal

pub returns-in_err-print_count-clause-printed : goal.returns-in_err-print_count-clause-printed
returns-in_err-print_count-clause-printed g c =
    let marks = c.args.marks.now.marks in
    failed _ c.from_residual.result _ _ _ _ _ c.from_residual.ensures.1
    (front_line _ _ _ _ (count_text (codes "marks") (finite.len marks)) _ (map (number_line sections.Store) (entries marks)) (ap (count_text (codes "marks")) c.len.ensures) c.in_err-print_count.ensures.printed)

pub returns-clause-printed : goal.returns-clause-printed
returns-clause-printed g c =
    let marks = c.args.marks.now.marks in
    line_then c.print_each_number.result _ _ _ _ _ _ (count_text (codes "marks") (finite.len marks)) _ (map (number_line sections.Store) (entries marks))
    (ap (count_text (codes "marks")) c.len.ensures) c.in_ok-print_count.ensures.printed c.print_each_number.ensures.printed
