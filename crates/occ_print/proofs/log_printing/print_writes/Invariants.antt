use Rattle.std.proofs.Common.{map, take}
use Rattle.occ_text.specs.Line.{lines_text}
use Rattle.occ_text.specs.Printing.{Pushed}
use Rattle.occ_print.specs.Books.{write_line}
use Rattle.occ_print.proofs.log_printing.print_writes.Given as goal

abbrev pub invariant-loop-place : goal.invariant-loop-place
invariant-loop-place g l = Pushed (g.W.Write.contents l.fn.writer) (g.W.Write.contents l.writer) l.fn.output.held l.output.held
    (lines_text (map (write_line l.schema) (take l.place l.writes)))
