use Rattle.std.proofs.Common.{◌≡◌, ◌≤◌, ◌+◌, ◌++◌, length, map, vec_len, vec_capacity}
use Rattle.occ_pages.specs.Entries.{within}
use Rattle.occ_book.specs.Table.{under_number}
use Rattle.occ_book.proofs.ranges.push_between.Given as goal

-- the copies so far, with those of the rows that are left, are those of all, and there is room for them
abbrev pub invariant-loop-number : goal.invariant-loop-number
invariant-loop-number g l = record {
  items : l.rows.items ++ map under_number l.number-iterator ≡ l.fn.rows.items ++ map under_number (within l.fn.lower l.fn.upper l.numbers);
  room : vec_len l.rows + length l.number-iterator ≤ vec_capacity l.rows;
  capacity : vec_capacity l.rows ≡ vec_capacity l.fn.rows;
}
