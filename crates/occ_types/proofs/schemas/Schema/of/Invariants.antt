use Rattle.std.proofs.Common.{◌≡◌, ◌++◌, drop, map}
use Rattle.occ_types.specs.PlainData.{named_table, tables_of}
use Rattle.occ_types.proofs.schemas.Schema.of.Given as goal

-- the tables so far and those that are left are all of them
abbrev pub invariant-loop-table : goal.invariant-loop-table
invariant-loop-table g l = tables_of l.list.items ++ map named_table (drop l.table-index l.tables) ≡ map named_table l.tables
