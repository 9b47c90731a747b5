use Rattle.std.proofs.Common.{◌≡◌, ◌-◌, length}
use Rattle.occ_reading.proofs.Common.{Gathered, InRow, ReadFits, books, framed, position_of, read_lines, reads_to_come}
use Rattle.occ_reading.proofs.transactions.take_reads.Given as goal

-- what was taken so far
abbrev pub invariant-loop : goal.invariant-loop
invariant-loop g l = record {
  count : length l.reads ≡ l.counter;
  taken : (row : InRow) → Gathered books (read_lines l.schema) (ReadFits l.version l.schema) (reads_to_come (framed l.version l.schema row) l.count) (reads_to_come (framed l.version l.schema row) (l.count - l.counter))
      (position_of l.fn.input (g.R.Read.remaining l.fn.reader)) (position_of l.input (g.R.Read.remaining l.reader)) l.reads;
}
