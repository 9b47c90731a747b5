use Rattle.std.proofs.Common.{◌≡◌, ◌+◌, ℕ, take}
use Rattle.occ_model.specs.Log.{Case}
use Rattle.occ_sets.specs.LogRows.{log_of}
use Rattle.occ_text.specs.Line.{lines_text}
use Rattle.occ_text.specs.Printing.{Pushed}
use Rattle.occ_run.specs.Reports.{sessions_lines}
use Rattle.occ_run.proofs.reports.write_sessions.Given as goal

abbrev pub invariant-loop-count : goal.invariant-loop-count
invariant-loop-count g l = record {
  session : l.session ≡ l.count-index + 1;
  pushed : (opened : g.row.O.Denot → ℕ × Case) → Pushed (g.W.Write.contents l.fn.writer) (g.W.Write.contents l.writer) l.fn.output.held l.output.held
      (lines_text (sessions_lines (log_of opened l.book.log.now) l.book.marks.now.marks 1 (take l.count-index l.refused)));
}
