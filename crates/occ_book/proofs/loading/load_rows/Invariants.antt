use Rattle.std.proofs.Common.{◌≡◌, drop}
use Rattle.occ_book.specs.Loaded.{plain_rows}
use Rattle.occ_book.proofs.LoadedRows.{IsLeft}
use Rattle.occ_book.proofs.loading.load_rows.Given as goal

-- the rows that are left lead to the same state, and the first fault is among them
abbrev pub invariant-loop-row : goal.invariant-loop-row
invariant-loop-row g l = record {
  tables : l.tables.tables ≡ l.fn.tables.tables;
  left : IsLeft l.fn.tables.tables l.tables.state (plain_rows (drop l.row-index l.rows)) (plain_rows l.rows);
}
