use Rattle.std.proofs.lemmas.Iterator.Consumers.{YieldsList-from_first}
use Rattle.occ_audit.proofs.Equal.{eq-decides, entries-decide, plain-decides, row_lent}
use Rattle.occ_audit.proofs.replica.are_kept.Goals as goal

pub returns-clause-same : goal.returns-clause-same
returns-clause-same g c =
    plain-decides c.args.rows.now c.args.kept
    (eq-decides row_lent (λ x. x) _ entries-decide c.eq.result c.eq.ensures.ran
    (YieldsList-from_first row_lent (λ rest. rest) c.args.rows.now c.iter.ensures.rows)
    (λ t is. YieldsList-from_first row_lent (λ rest. rest) c.args.kept is))
