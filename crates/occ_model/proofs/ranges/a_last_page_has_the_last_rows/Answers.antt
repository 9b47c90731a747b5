use Rattle.occ_model.proofs.PageRows.{last_pages}
use Rattle.occ_model.proofs.ranges.a_last_page_has_the_last_rows.Goals as goal

pub returns : goal.returns
returns c = last_pages
