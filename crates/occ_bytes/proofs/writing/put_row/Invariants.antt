use Rattle.std.proofs.Common.{◌≡◌, ◌+◌, ◌≤◌, length, take}
use Rattle.occ_bytes.specs.Bytes.{row_bytes, put_at}
use Rattle.occ_bytes.proofs.writing.put_row.Given as goal

-- the cells so far stand there, and the others have room behind them
abbrev pub invariant-loop-place : goal.invariant-loop-place
invariant-loop-place g l = (length l.room ≡ length l.fn.room)
    × (l.at + length (row_bytes l.row) ≤ length l.fn.room → (l.room ≡ put_at l.fn.room l.at (row_bytes (take l.place l.row))) × (l.behind ≡ l.at + length (row_bytes (take l.place l.row))))
