use Rattle.std.proofs.Common.{take}
use Rattle.std.specs.Prelude.{length}
use Rattle.occ_bytes.specs.Bytes.{row_bytes, IsSize}
use Rattle.occ_bytes.proofs.writing.row_size.Given as goal

-- the size of the cells so far
abbrev pub invariant-loop-place : goal.invariant-loop-place
invariant-loop-place g l = IsSize l.size (length (row_bytes (take l.place l.row)))
