use Rattle.std.proofs.Common.{◌≡◌, ◌+◌, ◌-◌, ◌<◌, Ok, map, sym, ap, ◌∙◌, suc, arith}
use Rattle.std.specs.FinMap.{get, entries}
use Rattle.occ_book.specs.Marks.{mark_at, marks_listed}
use Rattle.occ_print.specs.Books.{number_line}
use Rattle.occ_print.proofs.SessionMarks.{marks_next, marks_amid}
use Rattle.occ_print.proofs.Printing.{failed, values_more, values_front, lines_same}
use Rattle.occ_print.proofs.state_printing.print_each_number.Goals as goal

pub returns-in_err-print_number_of-clause-printed : goal.returns-in_err-print_number_of-clause-printed
returns-in_err-print_number_of-clause-printed g c =
    let marks = c.args.numbers.now.marks in
    let sessions = c.args.numbers.now.sessions in
    let done = c.loop-done.done in
    let same = c.sessions-done-end.ensures.value in
    let before = c.loop-done-test.true in
    let less : done < sessions = omega arith in
    failed _ c.from_residual.result _ _ _ _ _ c.from_residual.ensures.1
    (values_front (number_line c.args.section) _ _ _ _ _ _ (marks_listed marks 1 done) (mark_at (done + 1) (get marks (done + 1))) (marks_listed marks (suc (done + 1)) (sessions - (done + 1))) (entries marks)
    (c.sessions-done-end.ensures.listed ∙ marks_amid marks done sessions less) c.loop-done.invariant c.in_err-print_number_of.ensures.printed)

pub loop-done-preserved : goal.loop-done-preserved
loop-done-preserved g c =
    let marks = c.args.numbers.now.marks in
    let done = c.loop-done.done in
    values_more (number_line c.args.section) _ _ _ _ _ _ (marks_listed marks 1 done) (mark_at (done + 1) (get marks (done + 1))) _ (marks_next marks done) c.loop-done.invariant c.in_ok-print_number_of.ensures.printed

pub returns-clause-printed : goal.returns-clause-printed
returns-clause-printed g c =
    let marks = c.args.numbers.now.marks in
    let sessions = c.args.numbers.now.sessions in
    let done = c.loop-done.done in
    let same = c.sessions-done-end.ensures.value in
    let past = c.loop-done-test.false in
    let all : done ≡ sessions = omega arith in
    lines_same (Ok tt) _ _ _ _ _ _ (ap (map (number_line c.args.section)) (ap (marks_listed marks 1) all ∙ sym c.sessions-done-end.ensures.listed)) c.loop-done.invariant
