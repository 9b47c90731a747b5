use Rattle.std.proofs.Common.{subst}
use Rattle.occ_audit.proofs.Common.{IsStrictlySortedBy, key_cmp, keys_of}
use Rattle.occ_audit.proofs.Lending.{lent-ordered}
use Rattle.occ_audit.proofs.lent_rows.LentRows.len.Goals as goal

pub returns-clause-ordered : goal.returns-clause-ordered
returns-clause-ordered g c =
    subst (λ rows. IsStrictlySortedBy key_cmp (keys_of rows)) c.self.view_is
    (lent-ordered c.self.inside.numbers c.self.inside.others.entries c.self.invariant c.len.ensures.ascends c.len-2.ensures.ordered)
