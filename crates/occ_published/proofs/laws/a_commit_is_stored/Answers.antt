use Rattle.occ_published.proofs.Stored.{commits_are_stored}
use Rattle.occ_published.proofs.laws.a_commit_is_stored.Goals as goal

pub returns : goal.returns
returns c = commits_are_stored
