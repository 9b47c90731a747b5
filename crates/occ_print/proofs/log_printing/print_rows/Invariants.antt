use Rattle.std.proofs.Common.{ℕ, take}
use Rattle.std.specs.List.{flat_map}
use Rattle.occ_model.specs.Log.{Case}
use Rattle.occ_sets.specs.LogRows.{log_of}
use Rattle.occ_text.specs.Line.{lines_text}
use Rattle.occ_text.specs.Printing.{Pushed}
use Rattle.occ_print.specs.Books.{row_lines}
use Rattle.occ_print.proofs.log_printing.print_rows.Given as goal

abbrev pub invariant-loop-row : goal.invariant-loop-row
invariant-loop-row g l = (opened : g.row.O.Denot → ℕ × Case) → Pushed (g.W.Write.contents l.fn.writer) (g.W.Write.contents l.writer) l.fn.output.held l.output.held
    (lines_text (flat_map (row_lines l.schema) (log_of opened (take l.row-index l.log))))
