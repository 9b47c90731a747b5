use Rattle.std.proofs.Common.{refl, rules}
use Rattle.occ_types.specs.PlainData.{row_of}
use Rattle.std.proofs.Output.{has_written_append, has_written_of_eq}
use Rattle.occ_types.proofs.RowTexts.{row_next}
use Rattle.occ_types.proofs.rows.write_cells.Goals as goal

-- the next cell follows behind its comma
pub loop-cell-preserved : goal.loop-cell-preserved
loop-cell-preserved g c =
    λ plain.
    let so_far = c.loop-cell.invariant plain in
    let text = row_next {Z = g.row.A.Denot} c.args.cells.now (row_of c.args.cells.now) c.loop-cell.cell-index c.cell-item.result refl c.loop-cell-test.true c.cell-item.is in
    has_written_of_eq _ _ _ _ _ text (has_written_append _ _ _ _ _ _ so_far (search rules))
