use Rattle.std.proofs.Common.{◌≡◌, ◌-◌, length, vec_capacity}
use Rattle.occ_reading.proofs.Common.{Gathered, LogRowFits, books, frame_of, log_of, position_of, row_lines, rows_to_come}
use Rattle.occ_reading.proofs.transactions.take_rows.Given as goal

-- what was taken so far
abbrev pub invariant-loop : goal.invariant-loop
invariant-loop g l = record {
  count : length (log_of l.log.items) ≡ l.counter;
  room : length l.log.items ≡ 0 → vec_capacity l.log ≡ 0;
  taken : Gathered books (row_lines l.schema) (LogRowFits l.version l.schema l.sessions) (rows_to_come (frame_of l.version l.schema l.sessions) l.count) (rows_to_come (frame_of l.version l.schema l.sessions) (l.count - l.counter))
      (position_of l.fn.input (g.R.Read.remaining l.fn.reader)) (position_of l.input (g.R.Read.remaining l.reader)) (log_of l.log.items);
}
