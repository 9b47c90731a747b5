use Rattle.std.proofs.Common.{◌≡◌, drop}
use Rattle.occ_book.proofs.Common.{apply, deletions}
use Rattle.occ_book.proofs.tables.Tables.delete_rows.Given as goal

-- the deletions that are left lead to the same state
abbrev pub invariant-loop-place : goal.invariant-loop-place
invariant-loop-place g l = record {
  tables : l.self.tables ≡ l.fn.self.tables;
  left : apply l.self.state (deletions (drop l.place l.writes)) ≡ apply l.fn.self.state (deletions l.writes);
}
