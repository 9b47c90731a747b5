use Rattle.std.proofs.Common.{refl, sym, ap, option_copied}
use Rattle.occ_sets.specs.Entries.{observation_lent}
use Rattle.occ_audit.proofs.Common.{object_of}
use Rattle.occ_audit.proofs.Ranges.{one-decides}
use Rattle.occ_audit.proofs.replica.Replica.agrees.Goals as goal

pub returns-in-Key : goal.returns-in-Key
returns-in-Key g c =
    one-decides (observation_lent c.args.seen).1 (observation_lent c.args.seen).0 (object_of c.in-Key.object.now) (option_copied c.in-Key.row) c.args.self.now c.row.result c.in-Key.row c.eq.result
    (ap (λ s. (observation_lent s).0) c.in-Key.is)
    (ap (λ s. (observation_lent s).1) c.in-Key.is)
    (sym c.row.ensures)
    refl
    c.eq.ensures
