use Rattle.std.proofs.Common.{◌≡◌, ◌-◌, length, take}
use Rattle.occ_book.proofs.rows_between.RowsBackward.skip.Given as goal

-- so many rows are taken
abbrev pub invariant-loop : goal.invariant-loop
invariant-loop g l = l.self ≡ take (length l.fn.self - l.counter) l.fn.self
