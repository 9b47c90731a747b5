use Rattle.std.proofs.Common.{◌≡◌, ◌++◌, drop}
use Rattle.occ_types.specs.PlainData.{tables_of}
use Rattle.occ_types.proofs.schemas.copies.Given as goal

-- the tables so far and those that are left are all of them
abbrev pub invariant-loop-table : goal.invariant-loop-table
invariant-loop-table g l = tables_of l.copies.items ++ tables_of (drop l.table-index l.originals) ≡ tables_of l.originals
