use Rattle.std.proofs.Common.{ℕ, ◌+◌, ◌<◌, ◌≤◌, length, get_or}
use Rattle.occ_pages.proofs.search.rank.Given as goal

-- the keys before the base are below the key, and none behind what is left is
abbrev pub invariant-loop-size : goal.invariant-loop-size
invariant-loop-size l = record {
  within : l.base + l.size ≤ length l.keys;
  below : (i : ℕ) → i < l.base → get_or l.keys i 0 < l.key;
  from : (i : ℕ) → l.base + l.size ≤ i → i < length l.keys → l.key ≤ get_or l.keys i 0;
}

abbrev pub decreases-loop-size : goal.decreases-loop-size
decreases-loop-size l = l.size
