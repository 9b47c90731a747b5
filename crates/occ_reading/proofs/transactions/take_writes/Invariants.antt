use Rattle.std.proofs.Common.{◌≡◌, ◌-◌, length}
use Rattle.occ_reading.proofs.Common.{InRow, IsDistinctWrites, framed, position_of}
use Rattle.occ_reading.proofs.RowPlaces.{Writes}
use Rattle.occ_reading.proofs.transactions.take_writes.Given as goal

-- what was taken so far
abbrev pub invariant-loop : goal.invariant-loop
invariant-loop g l = record {
  count : length l.writes ≡ l.counter;
  distinct : IsDistinctWrites l.writes;
  taken : (row : InRow) → Writes (framed l.version l.schema row) l.count (l.count - l.counter) (position_of l.fn.input (g.R.Read.remaining l.fn.reader)) (position_of l.input (g.R.Read.remaining l.reader)) l.writes;
}
