use Rattle.std.proofs.Common.{◌≡◌, ℕ, drop}
use Rattle.occ_book.proofs.Common.{State, apply, writes_in, ArePlaced}
use Rattle.occ_book.proofs.lasts.note_writes.Given as goal

-- the writes that are left lead to the same end, and the last ones are of tables that are there
abbrev pub invariant-loop-place : goal.invariant-loop-place
invariant-loop-place g l = record {
  left : (state : State) → apply (apply state (writes_in l.last.entries)) (drop l.place l.writes) ≡ apply (apply state (writes_in l.fn.last.entries)) (drop l.fn.from l.writes);
  placed : (tables : ℕ) → ArePlaced tables (writes_in l.fn.last.entries) → ArePlaced tables l.writes → ArePlaced tables (writes_in l.last.entries);
}
