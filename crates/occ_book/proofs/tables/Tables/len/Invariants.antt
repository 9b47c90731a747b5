use Rattle.std.proofs.Common.{◌-◌, ◌^◌}
use Rattle.occ_book.proofs.Sizes.{IsSummed}
use Rattle.occ_book.proofs.tables.Tables.len.Given as goal

-- the rows of the tables so far are counted
abbrev pub invariant-loop-table : goal.invariant-loop-table
invariant-loop-table g l = IsSummed (2 ^ 64 - 1) l.table-index l.rows l.table-items
