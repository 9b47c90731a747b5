use Rattle.std.proofs.Common.{◌≡◌}
use Rattle.occ_c.proofs.Parts.{Going}
use Rattle.occ_c.proofs.operations.write_rows.Given as goal

-- the rows up to the next one went
abbrev pub invariant-loop-place : goal.invariant-loop-place
invariant-loop-place l = Going l.rows l.first l.place l.at l.fn.room l.room
