use Rattle.std.proofs.Common.{map}
use Rattle.occ_book.specs.Marks.{marks_listed}
use Rattle.occ_text.specs.Line.{lines_text}
use Rattle.occ_text.specs.Printing.{Pushed}
use Rattle.occ_print.specs.Books.{number_line}
use Rattle.occ_print.proofs.state_printing.print_each_number.Given as goal

-- the marks of this many sessions are printed
abbrev pub invariant-loop-done : goal.invariant-loop-done
invariant-loop-done g l = Pushed (g.W.Write.contents l.fn.writer) (g.W.Write.contents l.writer) l.fn.output.held l.output.held
    (lines_text (map (number_line l.section) (marks_listed l.numbers.marks 1 l.done)))
