use Rattle.std.proofs.Common.{◌≡◌, length}
use Rattle.occ_book.specs.Kept.{all_kept}
use Rattle.occ_book.proofs.Common.{KeepsReplaced, kept_writes}
use Rattle.occ_book.proofs.tables.Tables.take_back.Given as goal

-- what is still kept brings back the same state
abbrev pub invariant-loop-object : goal.invariant-loop-object
invariant-loop-object g l = record {
  tables : l.self.tables ≡ l.initial.self.tables;
  replaced : KeepsReplaced (kept_writes (all_kept l.initial.kept)) l.initial.self.state (kept_writes (all_kept l.kept)) l.self.state;
}

-- what is still kept
abbrev pub decreases-loop-object : goal.decreases-loop-object
decreases-loop-object g l = length (all_kept l.kept)
