use Rattle.std.proofs.Common.{btree_map_len}
use Rattle.occ_audit.proofs.replica.Replica.drop.Given as goal

-- the maps that are left
abbrev pub decreases-loop-rows : goal.decreases-loop-rows
decreases-loop-rows g l = btree_map_len l.tables
