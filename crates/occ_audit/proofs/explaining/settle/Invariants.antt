use Rattle.std.proofs.Common.{◌≡◌}
use Rattle.occ_audit.proofs.Common.{apply, writes_in}
use Rattle.occ_audit.proofs.explaining.settle.Given as goal

-- what is left leads to the same end
abbrev pub invariant-loop-object : goal.invariant-loop-object
invariant-loop-object g l = apply l.state (writes_in l.object-iterator) ≡ apply l.fn.state (writes_in l.rests.entries)
