use Rattle.std.proofs.Common.{◌+◌, take}
use Rattle.std.specs.Fmt.{HasWritten, IsPlainFormatter}
use Rattle.occ_types.specs.PlainData.{row_of}
use Rattle.occ_types.specs.Spelling.{row_text}
use Rattle.occ_types.proofs.rows.write_cells.Given as goal

-- the first cell and as many more are written
abbrev pub invariant-loop-cell : goal.invariant-loop-cell
invariant-loop-cell g l =
    IsPlainFormatter l.fn.f → HasWritten g.W.Write.write_str_gives l.fn.f (row_text (take (l.cell-index + 1) (row_of l.fn.cells))) l.f
