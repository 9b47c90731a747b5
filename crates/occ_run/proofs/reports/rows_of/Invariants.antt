use Rattle.std.proofs.Common.{◌≡◌, ℕ, ◌≤◌, length, take}
use Rattle.occ_model.specs.Log.{Case}
use Rattle.occ_sets.specs.LogRows.{log_of}
use Rattle.occ_run.specs.Reports.{rows_of}
use Rattle.occ_run.proofs.reports.rows_of.Given as goal

abbrev pub invariant-loop-row : goal.invariant-loop-row
invariant-loop-row g l = record {
  counted : (opened : g.row.O.Denot → ℕ × Case) → l.rows ≡ length (rows_of l.session (log_of opened (take l.row-index l.log)));
  few : l.rows ≤ l.row-index;
}
