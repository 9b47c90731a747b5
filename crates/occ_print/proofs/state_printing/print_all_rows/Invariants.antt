use Rattle.std.proofs.Common.{◌≡◌, ◌++◌, List, map}
use Rattle.std.specs.FinMap.{entries}
use Rattle.occ_types.specs.Object.{Object}
use Rattle.occ_types.specs.Row.{Row}
use Rattle.occ_text.specs.Line.{lines_text}
use Rattle.occ_text.specs.Printing.{Pushed}
use Rattle.occ_print.specs.Books.{entry_line}
use Rattle.occ_print.proofs.TableRows.{rows_from}
use Rattle.occ_print.proofs.state_printing.print_all_rows.Given as goal

-- the rows of the tables before this one are printed
abbrev pub invariant-loop-place : goal.invariant-loop-place
invariant-loop-place g l = record {
  done : List (Object × Row);
  whole : entries l.tables.state ≡ done ++ rows_from l.place l.tables.state;
  printed : Pushed (g.W.Write.contents l.fn.writer) (g.W.Write.contents l.writer) l.fn.output.held l.output.held (lines_text (map (entry_line l.section l.schema) done));
}
