use Rattle.std.proofs.Common.{map}
use Rattle.occ_book.specs.Content.{placed}
use Rattle.occ_text.specs.Line.{lines_text}
use Rattle.occ_text.specs.Printing.{Pushed}
use Rattle.occ_print.specs.Books.{entry_line}
use Rattle.occ_print.proofs.TableRows.{shown}
use Rattle.occ_print.proofs.state_printing.print_table.Given as goal

-- the rows so far are printed
abbrev pub invariant-loop-key : goal.invariant-loop-key
invariant-loop-key g l = Pushed (g.W.Write.contents l.fn.writer) (g.W.Write.contents l.writer) l.fn.output.held l.output.held
    (lines_text (map (entry_line l.section l.schema) (placed l.place (map shown l.yielded))))
