use Rattle.std.proofs.Common.{◌≡◌, drop}
use Rattle.occ_book.proofs.rows_between.RowsBetween.skip.Given as goal

-- so many rows are taken
abbrev pub invariant-loop : goal.invariant-loop
invariant-loop g l = l.self ≡ drop l.counter l.fn.self
