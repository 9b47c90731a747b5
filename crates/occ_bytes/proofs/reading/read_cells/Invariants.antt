use Rattle.std.proofs.Common.{◌≡◌, ◌++◌, take}
use Rattle.occ_types.specs.PlainData.{row_of}
use Rattle.occ_types.specs.Row.{Row}
use Rattle.occ_bytes.specs.Bytes.{row_bytes}
use Rattle.occ_bytes.specs.Reading.{IsRow}
use Rattle.occ_bytes.proofs.Back.{Left}
use Rattle.occ_bytes.proofs.reading.read_cells.Given as goal

-- what was read, with what is left, is all, and a row that is written so begins with it
abbrev pub invariant-loop-kind : goal.invariant-loop-kind
invariant-loop-kind g l = (row_bytes (row_of l.cells.items) ++ l.rest ≡ l.bytes)
    × IsRow (take l.kind-index l.kinds) (row_of l.cells.items)
    × ((row : Row) → IsRow l.kinds row → l.bytes ≡ row_bytes row → Left l.kinds (row_of l.cells.items) row l.rest l.kind-index)
