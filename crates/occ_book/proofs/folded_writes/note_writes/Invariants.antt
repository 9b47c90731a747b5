use Rattle.std.proofs.Common.{◌≡◌, ℕ, drop}
use Rattle.occ_book.proofs.Common.{State, apply, ArePlaced}
use Rattle.occ_sets.specs.PlainSets.{writes_of}
use Rattle.occ_book.specs.Folded.{due_writes, AreThere}
use Rattle.occ_book.proofs.folded_writes.note_writes.Given as goal

-- the writes that are left lead to the same end
abbrev pub invariant-loop-place : goal.invariant-loop-place
invariant-loop-place g l = record {
  same : apply l.origin.state (writes_of l.map.entries) ≡ apply l.origin.state (writes_of l.fn.map.entries);
  placed : (tables : ℕ) → ArePlaced tables (writes_of l.fn.map.entries) → ArePlaced tables l.writes → ArePlaced tables (writes_of l.map.entries);
  there : AreThere l.map.entries l.due.items;
  left : (state : State) → apply (apply state (due_writes l.map.entries l.due.items)) (drop l.place l.writes) ≡ apply (apply state (due_writes l.fn.map.entries l.fn.due.items)) l.writes;
}
