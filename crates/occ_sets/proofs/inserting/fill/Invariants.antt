use Rattle.std.proofs.Common.{◌≡◌, ◌+◌, ◌≤◌, length}
use Rattle.indexmap.specs.IndexMap.{spare}
use Rattle.occ_model.specs.RangeLaws.{set_all}
use Rattle.occ_sets.specs.PlainSets.{writes_of}
use Rattle.occ_sets.proofs.inserting.fill.Given as goal

-- the map has what was moved, and room for the rest
abbrev pub invariant-loop-object : goal.invariant-loop-object
invariant-loop-object g l = (writes_of l.map.entries ≡ set_all (writes_of l.yielded)) × (length l.fn.list.items ≤ spare l.map + length l.yielded)
