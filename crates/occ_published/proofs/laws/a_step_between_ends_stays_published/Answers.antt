use Rattle.occ_published.proofs.Stored.{stays_published}
use Rattle.occ_published.proofs.laws.a_step_between_ends_stays_published.Goals as goal

pub returns : goal.returns
returns c = stays_published
