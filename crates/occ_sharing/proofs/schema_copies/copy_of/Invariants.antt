use Rattle.std.proofs.Common.{◌≡◌, ◌++◌, drop}
use Rattle.occ_types.specs.PlainData.{tables_of}
use Rattle.occ_sharing.proofs.schema_copies.copy_of.Given as goal

-- the copies so far and the tables that are left are all of them
abbrev pub invariant-loop-table : goal.invariant-loop-table
invariant-loop-table g l = tables_of l.copies.items ++ tables_of (drop l.table-index l.tables) ≡ tables_of l.tables
