use Rattle.std.proofs.Common.{◌≡◌, ◌+◌, ◌≤◌, ◌++◌, vec_len, vec_capacity}
use Rattle.std.specs.BTreeMap.{btree_map_len}
use Rattle.occ_sets.specs.Merging.{rows_put}
use Rattle.occ_sets.proofs.prepared.lay_rest.Given as goal

-- the rows that are laid, with those of the writes that are left, are all rows
abbrev pub invariant-loop-own : goal.invariant-loop-own
invariant-loop-own g l = (l.room.items ++ rows_put l.own.entries ≡ l.fn.room.items ++ rows_put l.fn.own.entries) × (vec_len l.room + btree_map_len l.own ≤ vec_capacity l.room)

-- the writes that are left
abbrev pub decreases-loop-own : goal.decreases-loop-own
decreases-loop-own g l = btree_map_len l.own
