use Rattle.std.proofs.Common.{◌≡◌, ◌++◌, length, option_map}
use Rattle.occ_text.specs.Escapes.{unescaped}
use Rattle.occ_text.proofs.texts.unescape.Given as goal

-- what was read and what is still to be read are the whole
abbrev pub invariant-loop-rest : goal.invariant-loop-rest
invariant-loop-rest g l = option_map (λ more. l.text.items ++ more) (unescaped l.rest) ≡ unescaped l.bytes

abbrev pub decreases-loop-rest : goal.decreases-loop-rest
decreases-loop-rest g l = length l.rest
