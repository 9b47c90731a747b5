use Rattle.std.proofs.Common.{◌≡◌, ◌∷◌, [], ℕ, List, ◌-◌}
use Rattle.occ_reading.proofs.Common.{EntryFits, Gathered, Table, Version, books, entries, frame_of, number_line, numbers_to_come, position_of}
use Rattle.occ_reading.proofs.Rising.{SoFar}
use Rattle.occ_reading.proofs.Sections.{last_session}
use Rattle.occ_reading.proofs.whole_books.take_numbers.Given as goal

-- the lines so far were taken, in their order
abbrev pub invariant-loop : goal.invariant-loop
invariant-loop g l = record {
  so_far : SoFar (last_session l.last) l.counter l.marks.marks;
  all : l.marks.sessions ≡ l.sessions;
  taken : (version : Version) → (schema : List Table) → (rows : ℕ) → Gathered books (λ mark. number_line l.section mark ∷ []) (EntryFits l.sessions) (numbers_to_come l.section (frame_of version schema l.sessions) rows l.count 0) (numbers_to_come l.section (frame_of version schema l.sessions) rows (l.count - l.counter) l.last)
      (position_of l.fn.input (g.R.Read.remaining l.fn.reader)) (position_of l.input (g.R.Read.remaining l.reader)) (entries l.marks.marks);
}
