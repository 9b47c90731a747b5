use Rattle.occ_published.proofs.Stored.{causes_kept_may_be_told}
use Rattle.occ_published.proofs.laws.the_cause_kept_may_be_told.Goals as goal

pub returns : goal.returns
returns c = causes_kept_may_be_told
