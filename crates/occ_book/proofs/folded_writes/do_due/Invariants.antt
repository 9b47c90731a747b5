use Rattle.std.proofs.Common.{◌≡◌}
use Rattle.occ_book.proofs.Common.{State, apply}
use Rattle.occ_sets.specs.PlainSets.{writes_of}
use Rattle.occ_book.specs.Folded.{objects_of, due_writes}
use Rattle.occ_book.proofs.folded_writes.do_due.Given as goal

-- those that were taken are done
abbrev pub invariant-loop-place : goal.invariant-loop-place
invariant-loop-place g l = record {
  objects : objects_of l.map.entries ≡ objects_of l.fn.map.entries;
  done : (state : State) → apply state (writes_of l.map.entries) ≡ apply (apply state (writes_of l.fn.map.entries)) (due_writes l.fn.map.entries l.yielded);
}
