use Rattle.occ_published.proofs.Stored.{opened_is_published}
use Rattle.occ_published.proofs.laws.a_new_board_shows_an_empty_store.Goals as goal

pub returns : goal.returns
returns c = opened_is_published
