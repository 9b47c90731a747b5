use Rattle.std.proofs.Common.{subst}
use Rattle.occ_book.proofs.Common.{IsStrictlySortedBy, key_cmp, keys_of}
use Rattle.occ_book.proofs.TableRanges.{rows-ordered}
use Rattle.occ_book.proofs.table.Table.len.Goals as goal

pub returns-clause-ordered : goal.returns-clause-ordered
returns-clause-ordered g c =
    subst (λ rows. IsStrictlySortedBy key_cmp (keys_of rows)) c.self.view_is
    (rows-ordered c.self.inside.numbers c.self.inside.others.entries c.len.ensures.ascends c.self.invariant c.len-2.ensures.ordered)
