use Rattle.occ_audit.proofs.Lending.{gathered, HasOthers}
use Rattle.occ_audit.proofs.Lent.{Lends}
use Rattle.occ_audit.proofs.lent_rows.LentRows.of.Given as goal

-- the rows so far are gathered, and those that are left are the other ones
abbrev pub invariant-loop-key : goal.invariant-loop-key
invariant-loop-key g l = Lends l.fn.kept l.key-iterator (gathered l.numbers l.others.items) × HasOthers l.others.items
