use Rattle.std.proofs.Common.{map, take}
use Rattle.occ_types.specs.PlainData.{tables_of}
use Rattle.occ_text.specs.Line.{lines_text}
use Rattle.occ_text.specs.Printing.{Pushed}
use Rattle.occ_text.specs.Headers.{table_text}
use Rattle.occ_print.proofs.header_printing.print_tables.Given as goal

abbrev pub invariant-loop-table : goal.invariant-loop-table
invariant-loop-table g l = Pushed (g.W.Write.contents l.fn.writer) (g.W.Write.contents l.writer) l.fn.output.held l.output.held
    (lines_text (map table_text (tables_of (take l.table-index l.tables))))
