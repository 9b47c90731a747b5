use Rattle.std.proofs.Common.{drop}
use Rattle.occ_print.specs.Books.{read_lines}
use Rattle.occ_print.proofs.Printing.{LinesLeft}
use Rattle.occ_print.proofs.log_printing.print_reads.Given as goal

abbrev pub invariant-loop-read : goal.invariant-loop-read
invariant-loop-read g l = LinesLeft (read_lines l.schema) l.reads (drop l.read-iterator.place l.read-iterator.set.now)
    (g.W.Write.contents l.fn.writer) (g.W.Write.contents l.writer) l.fn.output.held l.output.held
