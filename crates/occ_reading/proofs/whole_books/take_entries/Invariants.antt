use Rattle.std.proofs.Common.{◌≡◌, ◌∷◌, [], ℕ, ◌-◌, length, None, option_map}
use Rattle.occ_reading.proofs.Common.{AtFits, Gathered, books, entries, entries_to_come, entry_line, frame_of, object_of, position_of}
use Rattle.occ_reading.proofs.Rising.{SoFar}
use Rattle.occ_reading.proofs.whole_books.take_entries.Given as goal

-- the rows so far were taken, in their order
abbrev pub invariant-loop : goal.invariant-loop
invariant-loop g l = record {
  so_far : SoFar (option_map object_of l.last) l.counter l.tables.state;
  all : l.tables.tables ≡ length l.schema;
  taken : (sessions : ℕ) → Gathered books (λ entry. entry_line l.section l.schema entry ∷ []) (AtFits l.version l.schema) (entries_to_come l.section (frame_of l.version l.schema sessions) l.count None) (entries_to_come l.section (frame_of l.version l.schema sessions) (l.count - l.counter) (option_map object_of l.last))
      (position_of l.fn.input (g.R.Read.remaining l.fn.reader)) (position_of l.input (g.R.Read.remaining l.reader)) (entries l.tables.state);
}
