use Rattle.occ_published.proofs.Stored.{causes_of_rows_may_be_told}
use Rattle.occ_published.proofs.laws.the_cause_of_a_row_may_be_told.Goals as goal

pub returns : goal.returns
returns c = causes_of_rows_may_be_told
