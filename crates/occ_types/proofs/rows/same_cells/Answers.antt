use Rattle.std.proofs.Common.{◌∙◌}
use Rattle.occ_types.specs.Same.{cell_same}
use Rattle.occ_types.specs.PlainData.{cell_of}
use Rattle.occ_types.proofs.Alike.{pointwise-on}
use Rattle.occ_types.proofs.rows.same_cells.Goals as goal

-- the cells are compared as they are seen, and those are the rows
pub returns : goal.returns
returns g c = c.eq.ensures ∙ pointwise-on (cell_of {Z = g.row.A.Denot}) cell_same c.args.cells.now c.args.others.now
