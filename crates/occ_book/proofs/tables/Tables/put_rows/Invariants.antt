use Rattle.std.proofs.Common.{◌≡◌, drop}
use Rattle.occ_book.specs.Kept.{all_kept}
use Rattle.occ_book.proofs.Common.{apply, puts, KeepsReplaced, kept_writes}
use Rattle.occ_book.proofs.tables.Tables.put_rows.Given as goal

-- the rows that are left lead to the same state
abbrev pub invariant-loop-place : goal.invariant-loop-place
invariant-loop-place g l = record {
  tables : l.self.tables ≡ l.fn.self.tables;
  replaced : KeepsReplaced (kept_writes (all_kept l.fn.kept)) l.fn.self.state (kept_writes (all_kept l.kept)) l.self.state;
  left : apply l.self.state (puts (drop l.place l.writes)) ≡ apply l.fn.self.state (puts l.writes);
}
