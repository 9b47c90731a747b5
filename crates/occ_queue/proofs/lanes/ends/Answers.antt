use Rattle.std.proofs.Common.{◌≤◌, subst}
use Rattle.occ_types.specs.declared.limits.TheConstants.{MAX_NUMBER}
use Rattle.occ_queue.proofs.Passing.{parts}
use Rattle.occ_queue.proofs.lanes.ends.Goals as goal

pub another-taking-requires-clause-rule : goal.another-taking-requires-clause-rule
another-taking-requires-clause-rule g c = parts _ _ _ (subst (λ n. n ≤ MAX_NUMBER) c.requires.number.0 c.requires.number.1) c.requires.first
