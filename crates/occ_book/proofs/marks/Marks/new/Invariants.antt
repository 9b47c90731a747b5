use Rattle.std.proofs.Common.{◌≡◌, [], length}
use Rattle.occ_book.proofs.Common.{marks_from}
use Rattle.occ_book.proofs.marks.Marks.new.Given as goal

-- the slots so far have no mark
abbrev pub invariant-loop : goal.invariant-loop
invariant-loop g l = record { counted : length l.slots.items ≡ l.counter; empty : marks_from 1 l.slots.items ≡ [] }
