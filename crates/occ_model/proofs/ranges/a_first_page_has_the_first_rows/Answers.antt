use Rattle.occ_model.proofs.PageRows.{first_pages}
use Rattle.occ_model.proofs.ranges.a_first_page_has_the_first_rows.Goals as goal

pub returns : goal.returns
returns c = first_pages
