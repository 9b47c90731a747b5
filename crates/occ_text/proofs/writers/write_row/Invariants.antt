use Rattle.std.proofs.Common.{◌≡◌, ◌++◌, take}
use Rattle.std.specs.Prelude.{string_bytes}
use Rattle.occ_types.specs.Spelling.{row_text}
use Rattle.occ_text.proofs.writers.write_row.Given as goal

abbrev pub invariant-loop-place : goal.invariant-loop-place
invariant-loop-place g l = string_bytes l.line ≡ string_bytes l.fn.line ++ row_text (take l.place l.fn.row)
