use Rattle.std.proofs.Common.{◌≡◌, ◌≤◌, ◌+◌, ◌++◌, take, reverse, vec_len, vec_capacity}
use Rattle.occ_pages.proofs.page.move_from.Given as goal

-- what was moved stands the other way round, behind what is left
abbrev pub invariant-loop-items : goal.invariant-loop-items
invariant-loop-items g l = record {
  all : l.items.items ++ reverse l.others.items ≡ l.fn.items.items;
  left : take l.place l.items.items ≡ take l.place l.fn.items.items;
  room : vec_len l.items ≤ l.place + vec_capacity l.others;
  count : vec_len l.items + vec_len l.others ≡ vec_len l.fn.items;
  items_room : vec_capacity l.items ≡ vec_capacity l.fn.items;
  others_room : vec_capacity l.others ≡ vec_capacity l.fn.others;
}

abbrev pub decreases-loop-items : goal.decreases-loop-items
decreases-loop-items g l = vec_len l.items
