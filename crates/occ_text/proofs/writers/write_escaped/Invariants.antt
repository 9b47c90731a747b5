use Rattle.std.proofs.Common.{◌≡◌, ◌++◌, take}
use Rattle.std.specs.Prelude.{string_bytes}
use Rattle.occ_types.specs.Spelling.{escaped}
use Rattle.occ_text.proofs.writers.write_escaped.Given as goal

abbrev pub invariant-loop-byte : goal.invariant-loop-byte
invariant-loop-byte g l = string_bytes l.line ≡ string_bytes l.fn.line ++ escaped (take l.byte-index l.bytes)
