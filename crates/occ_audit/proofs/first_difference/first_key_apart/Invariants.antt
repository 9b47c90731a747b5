use Rattle.occ_audit.proofs.Differences.{KeysWalked}
use Rattle.occ_audit.proofs.first_difference.first_key_apart.Given as goal

-- the rows so far stand in the other state
abbrev pub invariant-loop-key : goal.invariant-loop-key
invariant-loop-key g l = KeysWalked l.table l.other l.rows l.key-iterator
