use Rattle.std.proofs.Common.{◌≡◌, drop}
use Rattle.std.specs.List.{position_from}
use Rattle.occ_types.specs.Schema.{has_name}
use Rattle.occ_types.specs.PlainData.{tables_of}
use Rattle.occ_reading.proofs.schema_readers.place_of.Given as goal

-- the search among the tables that are left answers for all of them
abbrev pub invariant-loop-place : goal.invariant-loop-place
invariant-loop-place g l = position_from (has_name l.token) l.place (tables_of (drop l.place l.tables)) ≡ position_from (has_name l.token) 0 (tables_of l.tables)
