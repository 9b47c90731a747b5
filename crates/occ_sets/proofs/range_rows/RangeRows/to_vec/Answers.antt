use Rattle.std.proofs.Common.{◌∙◌, inr}
use Rattle.occ_sets.proofs.RowCopies.{rows_alike}
use Rattle.occ_sets.proofs.range_rows.RangeRows.to_vec.Goals as goal

-- the copies are the rows
pub returns : goal.returns
returns g c = rows_alike c.as_vec.result.now c.in_ok-rows.rows (inr c.in_ok-rows.ensures.cases) ∙ c.as_vec.ensures
