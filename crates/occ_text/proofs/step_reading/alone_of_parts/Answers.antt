use Rattle.std.proofs.Common.{ℕ, List, ap, sym, subst}
use Rattle.occ_text.specs.Escapes.{Gives}
use Rattle.occ_text.specs.StepReading.{alone_of_tokens}
use Rattle.occ_text.specs.Steps.{step_of}
use Rattle.occ_text.proofs.step_reading.alone_of_parts.Goals as goal

pub returns-in_default : goal.returns-in_default
unfolding alone_of_tokens
returns-in_default g c = ap (alone_of_tokens c.args.version) c.in_default.ensures.0

pub returns : goal.returns
unfolding alone_of_tokens
returns g c = subst (λ (l : List (List ℕ)). Gives step_of c.alone_step.result (alone_of_tokens c.args.version l)) (sym c.in-Some.ensures) c.alone_step.ensures
