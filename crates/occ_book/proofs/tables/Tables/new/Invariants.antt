use Rattle.std.proofs.Common.{◌≡◌, [], length}
use Rattle.occ_book.proofs.Common.{placed_from}
use Rattle.occ_book.proofs.tables.Tables.new.Given as goal

-- the tables so far have no rows
abbrev pub invariant-loop : goal.invariant-loop
invariant-loop g l = record { counted : length l.tables.items ≡ l.counter; empty : placed_from 0 l.tables.items ≡ [] }
