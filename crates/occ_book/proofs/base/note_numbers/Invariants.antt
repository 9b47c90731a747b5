use Rattle.std.proofs.Common.{◌≡◌, ℕ, drop}
use Rattle.occ_book.proofs.Common.{AllFitIn, numbered}
use Rattle.occ_book.proofs.base.note_numbers.Given as goal

-- the rows that are left lead to the same numbers
abbrev pub invariant-loop-row : goal.invariant-loop-row
invariant-loop-row g l = record {
  sessions : l.numbers.sessions ≡ l.fn.numbers.sessions;
  fits : (tables : ℕ) × AllFitIn tables l.numbers.sessions (drop l.row-index l.rows);
  left : numbered l.numbers.marks (drop l.row-index l.rows) ≡ numbered l.fn.numbers.marks l.rows;
}
