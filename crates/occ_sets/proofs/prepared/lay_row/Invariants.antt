use Rattle.std.proofs.Common.{◌≡◌, ◌+◌, ◌≤◌, ◌++◌, vec_len, vec_capacity}
use Rattle.std.specs.BTreeMap.{btree_map_len}
use Rattle.std.specs.Ordering.{on}
use Rattle.occ_types.specs.Key.{key_cmp}
use Rattle.occ_types.specs.PlainData.{key_of}
use Rattle.occ_sets.specs.Merging.{laid}
use Rattle.occ_sets.proofs.prepared.lay_row.Given as goal

-- what is laid, with what the row and the writes that are left give, is what all gives
abbrev pub invariant-loop-own : goal.invariant-loop-own
invariant-loop-own g l =
    ((others : _) → l.room.items ++ laid (on key_of key_cmp) l.key l.row others l.own.entries ≡ l.fn.room.items ++ laid (on key_of key_cmp) l.key l.row others l.fn.own.entries)
    × (vec_capacity l.room ≡ vec_capacity l.fn.room)
    × (vec_len l.room + btree_map_len l.own ≤ vec_len l.fn.room + btree_map_len l.fn.own)

-- the writes that are left
abbrev pub decreases-loop-own : goal.decreases-loop-own
decreases-loop-own g l = btree_map_len l.own
