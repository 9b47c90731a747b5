use Rattle.occ_published.proofs.Stored.{begun_is_published}
use Rattle.occ_published.proofs.laws.a_board_shows_a_store_that_goes_on.Goals as goal

pub returns : goal.returns
returns c = begun_is_published
