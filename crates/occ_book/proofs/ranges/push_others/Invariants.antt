use Rattle.std.proofs.Common.{◌≡◌, ◌≤◌, ◌+◌, ◌++◌, length, vec_len, vec_capacity, option_copied}
use Rattle.occ_book.proofs.Common.{end_of, entries_within}
use Rattle.occ_book.proofs.ranges.push_others.Given as goal

-- the copies so far, with the entries that are left, are all entries, and there is room for them
abbrev pub invariant-loop-key : goal.invariant-loop-key
invariant-loop-key g l = record {
  items : l.rows.items ++ l.key-iterator ≡ l.fn.rows.items ++ entries_within (end_of (option_copied l.fn.lower)) (end_of (option_copied l.fn.upper)) l.map.entries;
  room : vec_len l.rows + length l.key-iterator ≤ vec_capacity l.rows;
}
