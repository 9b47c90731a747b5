use Rattle.std.proofs.Common.{◌≡◌, ℕ, drop}
use Rattle.occ_book.proofs.Common.{State, apply, AllFitIn, written, ArePlaced}
use Rattle.occ_sets.specs.PlainSets.{writes_of}
use Rattle.occ_book.specs.Folded.{due_writes, AreThere}
use Rattle.occ_book.proofs.folded_writes.note_rows.Given as goal

-- the rows that are left lead to the same end
abbrev pub invariant-loop-row : goal.invariant-loop-row
invariant-loop-row g l = record {
  same : apply l.origin.state (writes_of l.map.entries) ≡ apply l.origin.state (writes_of l.fn.map.entries);
  placed : (tables sessions : ℕ) → ArePlaced tables (writes_of l.fn.map.entries) → AllFitIn tables sessions l.rows → ArePlaced tables (writes_of l.map.entries) × AllFitIn tables sessions (drop l.row-index l.rows);
  there : AreThere l.map.entries l.due.items;
  left : (state : State) → written (apply state (due_writes l.map.entries l.due.items)) (drop l.row-index l.rows) ≡ written (apply state (due_writes l.fn.map.entries l.fn.due.items)) l.rows;
}
