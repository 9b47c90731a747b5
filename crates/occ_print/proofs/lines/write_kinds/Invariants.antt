use Rattle.std.proofs.Common.{◌≡◌, ◌∷◌, ◌++◌, take}
use Rattle.std.specs.Prelude.{string_bytes}
use Rattle.std.specs.List.{flat_map}
use Rattle.occ_text.specs.Headers.{kind_word}
use Rattle.occ_print.proofs.lines.write_kinds.Given as goal

abbrev pub invariant-loop-kind : goal.invariant-loop-kind
invariant-loop-kind g l = string_bytes l.line ≡ string_bytes l.fn.line ++ flat_map (λ kind. 32 ∷ kind_word kind) (take l.kind-index l.kinds)
