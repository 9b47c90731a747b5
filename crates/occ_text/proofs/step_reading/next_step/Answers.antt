use Rattle.std.proofs.Common.{List, ℕ, Option, refl, sym, subst, ap, ◌∙◌}
use Rattle.occ_text.specs.Fields.{Tokens, GivesNext}
use Rattle.occ_text.specs.StepReading.{next_step}
use Rattle.occ_text.specs.Steps.{Step, step_of}
use Rattle.occ_text.proofs.StepsTaken.{act_read, other_read}
use Rattle.occ_text.proofs.step_reading.next_step.Goals as goal

pub returns-in-Some : goal.returns-in-Some
returns-in-Some g c =
    subst (λ (o : Option (Step × Tokens)). GivesNext (step_of {Z = g.row.A.Denot}) c.act_step.result o c.act_step.new.parts)
    (sym (ap (λ (w : List ℕ). next_step c.args.version (w, c.args.parts.now)) c.in-Some.ensures.act ∙ act_read c.args.version c.in-Some.act c.args.parts.now)) c.act_step.ensures

pub returns-in-None : goal.returns-in-None
returns-in-None g c =
    subst (λ (o : Option (Step × Tokens)). GivesNext (step_of {Z = g.row.A.Denot}) c.form_step.result o c.form_step.new.parts)
    (sym (other_read c.args.version c.args.word.now c.args.parts.now (c.in-None.ensures.none refl))) c.form_step.ensures
