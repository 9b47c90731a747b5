use Rattle.std.proofs.Common.{rules, tests, refl}
use Rattle.std.proofs.lemmas.Iterator.Consumers.{YieldsList-from_first}
use Rattle.occ_audit.proofs.Common.{YieldsList-from_map_by, YieldsList-from_slice, YieldsList-at, rows_of, seen}
use Rattle.occ_audit.proofs.Equal.{eq-decides, entries-decide, plain-decides, row_lent}
use Rattle.occ_audit.proofs.replica.are_given.Goals as goal

pub returns : goal.returns
returns g c =
    let given = c.args.given.now in
    plain-decides c.args.rows (rows_of given)
    (eq-decides row_lent (λ x. x) _ entries-decide c.eq.result c.eq.ensures.ran
    (YieldsList-from_first row_lent (λ rest. rest) c.args.rows refl)
    (λ t is. YieldsList-at is (YieldsList-from_map_by _ row_lent seen (YieldsList-at c.map.ensures.source (YieldsList-from_slice given c.iter.ensures.rest)) c.map.ensures.closure (λ x r q k. search (rules, tests)))))
