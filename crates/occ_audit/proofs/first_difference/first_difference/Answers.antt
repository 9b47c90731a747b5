use Rattle.occ_audit.proofs.Differences.{first-found}
use Rattle.occ_audit.proofs.first_difference.first_difference.Goals as goal

pub returns : goal.returns
returns g c =
    first-found c.args.one.now c.args.other.now c.first_apart-forward.result c.first_apart-backward.result c.earlier.result c.first_apart-forward.ensures c.first_apart-backward.ensures c.earlier.ensures
