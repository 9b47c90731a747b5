use Rattle.std.proofs.Common.{◌≡◌, ◌+◌, ◌≤◌, ◌++◌, length, vec_len, vec_capacity}
use Rattle.std.specs.BTreeMap.{btree_map_len}
use Rattle.std.specs.Ordering.{on}
use Rattle.occ_types.specs.Key.{key_cmp}
use Rattle.occ_types.specs.PlainData.{key_of}
use Rattle.occ_sets.specs.Merging.{merged}
use Rattle.occ_sets.proofs.prepared.merge.Given as goal

-- what is laid, with what the rows and writes that are left give, is what all give; and there is room for those
abbrev pub invariant-loop-key : goal.invariant-loop-key
invariant-loop-key g l =
    ((rest : _) → l.fn.rows.items ≡ l.yielded ++ rest → l.room.items ++ merged (on key_of key_cmp) rest l.own.entries ≡ merged (on key_of key_cmp) l.fn.rows.items l.initial.own.entries)
    × (vec_len l.room + btree_map_len l.own ≤ btree_map_len l.initial.own + length l.yielded)
    × (length l.fn.rows.items + btree_map_len l.initial.own ≤ vec_capacity l.room)
