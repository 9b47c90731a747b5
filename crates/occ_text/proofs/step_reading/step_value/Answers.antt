use Rattle.std.proofs.Common.{Option, sym, ap, subst, ◌∙◌}
use Rattle.occ_text.specs.Escapes.{Gives}
use Rattle.occ_text.specs.StepReading.{step_of_tokens}
use Rattle.occ_text.specs.Steps.{Step, step_of}
use Rattle.occ_text.proofs.StepLines.{untested_step}
use Rattle.occ_text.proofs.step_reading.step_value.Goals as goal

pub returns : goal.returns
returns g c =
    subst (λ (step : Option Step). Gives (step_of {Z = g.row.A.Denot}) c.step_of_parts.result step) (ap (step_of_tokens c.args.version) c.new.ensures ∙ sym (untested_step c.args.version c.args.line.now)) c.step_of_parts.ensures
