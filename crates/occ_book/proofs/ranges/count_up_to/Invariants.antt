use Rattle.std.proofs.Common.{◌≡◌, ◌≤◌, ◌+◌, length, option_copied}
use Rattle.occ_book.proofs.Common.{end_of, entries_within}
use Rattle.occ_book.proofs.ranges.count_up_to.Given as goal

-- those so far, with those that are left, are all, and the first ones not too many
abbrev pub invariant-loop : goal.invariant-loop
invariant-loop g l = record {
  counted : l.count + length l.iterator' ≡ length (entries_within (end_of (option_copied l.fn.lower)) (end_of (option_copied l.fn.upper)) l.map.entries);
  few : l.count ≤ l.fn.most;
}
