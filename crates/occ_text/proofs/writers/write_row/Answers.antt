use Rattle.std.proofs.Common.{sym, ap, ◌∙◌, arith}
use Rattle.std.specs.Option.{option_map}
use Rattle.occ_types.specs.PlainData.{cell_lent}
use Rattle.occ_types.proofs.Walks.{is_there}
use Rattle.occ_text.proofs.Rows.{row_more}
use Rattle.occ_text.proofs.writers.write_row.Goals as goal

-- there is a cell at each place of the row
pub returns-in-None : goal.returns-in-None
returns-in-None g c =
    is_there c.args.row.now c.loop-place.place (ap (option_map cell_lent) (sym c.in-None.is) ∙ c.cell.ensures) (omega arith)

-- the next cell follows behind its comma
pub loop-place-preserved : goal.loop-place-preserved
loop-place-preserved g c =
    let there = ap (option_map cell_lent) (sym c.in-Some.is) ∙ c.cell.ensures in
    row_more _ _ _ _ c.args.row.now c.loop-place.place _ there c.loop-place.invariant c.in_ok-write_comma.ensures c.in_ok-write_cell-in-Some.ensures
