use Rattle.std.proofs.Common.{◌≡◌, drop}
use Rattle.occ_types.specs.Schema.{are_tables}
use Rattle.occ_types.specs.PlainData.{tables_of}
use Rattle.occ_types.proofs.schemas.are_tables.Given as goal

-- the test of the tables that are left answers for all of them
abbrev pub invariant-loop-place : goal.invariant-loop-place
invariant-loop-place g l = are_tables (tables_of (drop l.place l.tables)) ≡ are_tables (tables_of l.tables)
