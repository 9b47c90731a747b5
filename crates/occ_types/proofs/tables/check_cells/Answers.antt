use Rattle.std.proofs.Common.{◌<◌, length, sym, ap, ◌∙◌, arith}
use Rattle.std.specs.Option.{option_map}
use Rattle.std.proofs.lemmas.Result.{err_from_is_err_and}
use Rattle.occ_types.specs.PlainData.{cell_lent}
use Rattle.occ_types.specs.declared.kind.Kind.TheVariants as kinds
use Rattle.occ_types.proofs.Walks.{is_there, check_cells-fit, check_cells-fault}
use Rattle.occ_types.proofs.tables.check_cells.Goals as goal

-- a cell that does not fit is the answer
pub returns-in_err-check_cell-in-Some : goal.returns-in_err-check_cell-in-Some
returns-in_err-check_cell-in-Some g c =
    let p = err_from_is_err_and c.from_residual.result c.from_residual.ensures.1 in
    let there = ap (option_map (cell_lent)) (sym c.in-Some.is) ∙ c.cell.ensures in
    let fault = check_cells-fault c.args.kinds.now c.args.row.now c.loop-place.place kinds.Int _ c.in_err-check_cell-in-Some.field-0.0 c.loop-place-test.true there c.in_err-check_cell-in-Some.ensures in
    rw (p.1, p.2) (sym fault ∙ c.loop-place.invariant)

-- there is a cell for each column
pub returns-in-None : goal.returns-in-None
returns-in-None g c =
    let shorter : c.loop-place.place < length c.args.row.now = omega arith in
    let none = ap (option_map (cell_lent)) (sym c.in-None.is) ∙ c.cell.ensures in
    is_there c.args.row.now c.loop-place.place none shorter

-- a cell that fits leaves the check of the rest
pub loop-place-preserved : goal.loop-place-preserved
loop-place-preserved g c =
    let there = ap (option_map (cell_lent)) (sym c.in-Some.is) ∙ c.cell.ensures in
    check_cells-fit c.args.kinds.now c.args.row.now c.loop-place.place kinds.Int _ c.loop-place-test.true there c.in_ok-check_cell-in-Some.ensures ∙ c.loop-place.invariant
