use Rattle.std.proofs.Common.{◌≡◌, drop}
use Rattle.occ_types.specs.Schema.{check_cells}
use Rattle.occ_types.proofs.tables.check_cells.Given as goal

-- the check of the cells that are left answers for all of them
abbrev pub invariant-loop-place : goal.invariant-loop-place
invariant-loop-place g l = check_cells (drop l.place l.kinds) (drop l.place l.fn.row) ≡ check_cells l.kinds l.fn.row
