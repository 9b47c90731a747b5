use Rattle.std.proofs.Common.{◌≡◌, ℕ, ◌-◌, None, length, vec_capacity}
use Rattle.occ_reading.proofs.Common.{InRow, RisesFrom, framed, last_key, pairs_to_come, position_of, rows_of}
use Rattle.occ_reading.proofs.RowPlaces.{Pairs}
use Rattle.occ_reading.proofs.transactions.take_pairs.Given as goal

-- what was taken so far
abbrev pub invariant-loop : goal.invariant-loop
invariant-loop g l = record {
  count : length (rows_of l.rows.items) ≡ l.counter;
  room : length l.rows.items ≡ 0 → vec_capacity l.rows ≡ 0;
  rises : RisesFrom None (rows_of l.rows.items);
  taken : (row : InRow) → (reads : ℕ) → Pairs (framed l.version l.schema row) reads l.table (pairs_to_come (framed l.version l.schema row) reads l.table l.count None) (pairs_to_come (framed l.version l.schema row) reads l.table (l.count - l.counter) (last_key (rows_of l.rows.items)))
      (position_of l.fn.input (g.R.Read.remaining l.fn.reader)) (position_of l.input (g.R.Read.remaining l.reader)) (rows_of l.rows.items);
}
