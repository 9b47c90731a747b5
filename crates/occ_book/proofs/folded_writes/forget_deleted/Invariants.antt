use Rattle.std.proofs.Common.{◌≡◌, ℕ}
use Rattle.occ_book.proofs.Common.{apply, ArePlaced}
use Rattle.occ_sets.specs.PlainSets.{writes_of}
use Rattle.occ_book.proofs.folded_writes.forget_deleted.Given as goal

-- the state stays
abbrev pub invariant-loop-row : goal.invariant-loop-row
invariant-loop-row g l = record {
  same : apply l.origin.state (writes_of l.map.entries) ≡ apply l.origin.state (writes_of l.fn.map.entries);
  placed : (tables : ℕ) → ArePlaced tables (writes_of l.fn.map.entries) → ArePlaced tables (writes_of l.map.entries);
}
