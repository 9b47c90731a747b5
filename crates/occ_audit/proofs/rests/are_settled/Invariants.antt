use Rattle.std.proofs.Common.{◌≡◌}
use Rattle.occ_audit.proofs.Common.{apply, writes_in, Iff, AreInOrder}
use Rattle.occ_audit.proofs.rests.are_settled.Given as goal

-- the tables with all rests are the state as it was where the tables with those that are left are the state as it is now
abbrev pub invariant-loop-object : goal.invariant-loop-object
invariant-loop-object g l =
    AreInOrder l.object-iterator
    × Iff (apply l.tables.state (writes_in l.rests.entries) ≡ l.fn.replayed) (apply l.tables.state (writes_in l.object-iterator) ≡ l.replayed)
