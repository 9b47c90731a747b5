use Rattle.std.proofs.Common.{◌++◌, [], ◌∷◌, Ok}
use Rattle.occ_print.specs.Books.{book_of, header_lines, base_lines, log_lines, mark_lines, state_lines, counter_line}
use Rattle.occ_print.proofs.Printing.{failed, front_before, front_amid, lines_then}
use Rattle.occ_print.proofs.books.write_book.Goals as goal

pub returns-in_err-print_opening-clause-printed : goal.returns-in_err-print_opening-clause-printed
returns-in_err-print_opening-clause-printed g c = λ opened.
    let book = book_of opened c.args.limits c.args.schema.now c.args.book.now in
    let header = header_lines book.header ++ base_lines book.header.tables book.base in
    let log = log_lines book.header.tables book.log in
    let marks = mark_lines book.marks in
    let state = state_lines book.header.tables book.state in
    let counter = counter_line book.counter book.low ∷ [] in
    failed _ c.from_residual.result _ _ _ _ _ c.from_residual.ensures.1
    (front_before _ _ _ _ (header ++ log ++ marks ++ state) counter
    (front_before _ _ _ _ (header ++ log ++ marks) state
    (front_before _ _ _ _ (header ++ log) marks (front_before _ _ _ _ header log c.in_err-print_opening.ensures.printed))))

pub returns-in_err-print_log-clause-printed : goal.returns-in_err-print_log-clause-printed
returns-in_err-print_log-clause-printed g c = λ opened.
    let book = book_of opened c.args.limits c.args.schema.now c.args.book.now in
    let header = header_lines book.header ++ base_lines book.header.tables book.base in
    let log = log_lines book.header.tables book.log in
    let marks = mark_lines book.marks in
    let state = state_lines book.header.tables book.state in
    let counter = counter_line book.counter book.low ∷ [] in
    failed _ c.from_residual-in_err-print_log.result _ _ _ _ _ c.from_residual-in_err-print_log.ensures.1
    (front_before _ _ _ _ (header ++ log ++ marks ++ state) counter
    (front_before _ _ _ _ (header ++ log ++ marks) state
    (front_amid _ _ _ _ _ _ header log marks c.in_ok-print_opening.ensures.printed (c.in_err-print_log.ensures.printed opened))))

pub returns-in_err-print_marks-clause-printed : goal.returns-in_err-print_marks-clause-printed
returns-in_err-print_marks-clause-printed g c = λ opened.
    let book = book_of opened c.args.limits c.args.schema.now c.args.book.now in
    let header = header_lines book.header ++ base_lines book.header.tables book.base in
    let log = log_lines book.header.tables book.log in
    let marks = mark_lines book.marks in
    let state = state_lines book.header.tables book.state in
    let counter = counter_line book.counter book.low ∷ [] in
    failed _ c.from_residual-in_err-print_marks.result _ _ _ _ _ c.from_residual-in_err-print_marks.ensures.1
    (front_before _ _ _ _ (header ++ log ++ marks ++ state) counter
    (front_amid _ _ _ _ _ _ (header ++ log) marks state
    (lines_then (Ok tt) _ _ _ _ _ _ header log c.in_ok-print_opening.ensures.printed (c.in_ok-print_log.ensures.printed opened)) c.in_err-print_marks.ensures.printed))

pub returns-in_err-print_state-clause-printed : goal.returns-in_err-print_state-clause-printed
returns-in_err-print_state-clause-printed g c = λ opened.
    let book = book_of opened c.args.limits c.args.schema.now c.args.book.now in
    let header = header_lines book.header ++ base_lines book.header.tables book.base in
    let log = log_lines book.header.tables book.log in
    let marks = mark_lines book.marks in
    let state = state_lines book.header.tables book.state in
    let counter = counter_line book.counter book.low ∷ [] in
    failed _ c.from_residual-in_err-print_state.result _ _ _ _ _ c.from_residual-in_err-print_state.ensures.1
    (front_amid _ _ _ _ _ _ (header ++ log ++ marks) state counter
    (lines_then (Ok tt) _ _ _ _ _ _ (header ++ log) marks
    (lines_then (Ok tt) _ _ _ _ _ _ header log c.in_ok-print_opening.ensures.printed (c.in_ok-print_log.ensures.printed opened)) c.in_ok-print_marks.ensures.printed)
    c.in_err-print_state.ensures.printed)

pub returns-clause-printed : goal.returns-clause-printed
returns-clause-printed g c = λ opened.
    let book = book_of opened c.args.limits c.args.schema.now c.args.book.now in
    let header = header_lines book.header ++ base_lines book.header.tables book.base in
    let log = log_lines book.header.tables book.log in
    let marks = mark_lines book.marks in
    let state = state_lines book.header.tables book.state in
    let counter = counter_line book.counter book.low ∷ [] in
    lines_then c.print_counter.result _ _ _ _ _ _ (header ++ log ++ marks ++ state) counter
    (lines_then (Ok tt) _ _ _ _ _ _ (header ++ log ++ marks) state
    (lines_then (Ok tt) _ _ _ _ _ _ (header ++ log) marks
    (lines_then (Ok tt) _ _ _ _ _ _ header log c.in_ok-print_opening.ensures.printed (c.in_ok-print_log.ensures.printed opened)) c.in_ok-print_marks.ensures.printed)
    c.in_ok-print_state.ensures.printed)
    c.print_counter.ensures.printed
