use Rattle.std.proofs.Common.{◌≡◌, ◌∙◌, ◌∷◌, [], Ok, map, ap}
use Rattle.std.specs.FinMap.{entries, len}
use Rattle.occ_print.specs.Books.{base_line, number_line, entry_line, row_count}
use Rattle.occ_print.specs.declared.sections.Section.TheVariants as sections
use Rattle.occ_print.proofs.Printing.{failed, printed_nothing, front_before, front_line, front_amid, lines_then}
use Rattle.occ_print.proofs.books.print_folded.Goals as goal

pub returns-in_err-rows-clause-printed : goal.returns-in_err-rows-clause-printed
returns-in_err-rows-clause-printed g c = printed_nothing _ c.from_residual.result _ _ _ c.from_residual.ensures.1

pub returns-in_err-print_base_line-clause-printed : goal.returns-in_err-print_base_line-clause-printed
returns-in_err-print_base_line-clause-printed g c =
    let base = c.args.base.now.base in
    let counted : c.len.result ≡ row_count base.state = c.len.ensures ∙ ap row_count c.in_ok-rows.ensures.rows in
    let line = base_line base.place (len base.last) in
    let numbers = map (number_line sections.Base) (entries base.last) in
    let rows = map (entry_line sections.Base c.args.schema.now) (entries base.state) in
    failed _ c.from_residual-in_err-print_base_line.result _ _ _ _ _ c.from_residual-in_err-print_base_line.ensures.1
    (front_before _ _ _ _ (line (row_count base.state) ∷ numbers) rows (front_line _ _ _ _ (line (row_count base.state)) (line c.len.result) numbers (ap line counted) c.in_err-print_base_line.ensures.printed))

pub returns-in_err-print_each_number-clause-printed : goal.returns-in_err-print_each_number-clause-printed
returns-in_err-print_each_number-clause-printed g c =
    let base = c.args.base.now.base in
    let counted : c.len.result ≡ row_count base.state = c.len.ensures ∙ ap row_count c.in_ok-rows.ensures.rows in
    let first = base_line base.place (len base.last) (row_count base.state) in
    let numbers = map (number_line sections.Base) (entries base.last) in
    let rows = map (entry_line sections.Base c.args.schema.now) (entries base.state) in
    failed _ c.from_residual-in_err-print_each_number.result _ _ _ _ _ c.from_residual-in_err-print_each_number.ensures.1
    (front_amid _ _ _ _ _ _ (first ∷ []) numbers rows (rw counted at c.in_ok-print_base_line.ensures.printed) (rw c.numbers.ensures at c.in_err-print_each_number.ensures.printed))

pub returns-clause-printed : goal.returns-clause-printed
returns-clause-printed g c =
    let base = c.args.base.now.base in
    let counted : c.len.result ≡ row_count base.state = c.len.ensures ∙ ap row_count c.in_ok-rows.ensures.rows in
    let first = base_line base.place (len base.last) (row_count base.state) in
    let numbers = map (number_line sections.Base) (entries base.last) in
    let rows = map (entry_line sections.Base c.args.schema.now) (entries base.state) in
    lines_then c.print_all_rows.result _ _ _ _ _ _ (first ∷ numbers) rows
    (lines_then (Ok tt) _ _ _ _ _ _ (first ∷ []) numbers (rw counted at c.in_ok-print_base_line.ensures.printed) (rw c.numbers.ensures at c.in_ok-print_each_number.ensures.printed))
    (rw c.in_ok-rows.ensures.rows at c.print_all_rows.ensures.printed)
