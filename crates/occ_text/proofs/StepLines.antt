-- The lines of steps: what is read is spelled so, and what is spelled so is read again.
use Rattle.std.proofs.Common.{◌≡◌, ℕ, eqb, List, Some, sym, ap, subst, ◌∙◌}
use Rattle.std.specs.List.{slice_split}
use Rattle.std.specs.Prelude.{option_and_then}
use Rattle.occ_text.specs.declared.versions.Version.{Version}
use Rattle.occ_text.specs.Spelling.{line_text, AreTokens}
use Rattle.occ_text.specs.Reading.{Reads, tokens_of}
use Rattle.occ_text.specs.Steps.{Step, step_tokens, step_text, StepFits}
use Rattle.occ_text.specs.StepReading.{step_of_tokens, step_of_line}
use Rattle.occ_text.proofs.Numbers.{some_or_none}
use Rattle.occ_text.proofs.Escapes.{bind_value}
use Rattle.occ_text.proofs.Words.{tokens_takes, tokens_again, untested}
use Rattle.occ_text.proofs.StepsTaken.{tokens_take, step_again}

line_takes : (version : Version) (line : List ℕ) (step : Step) → step_of_line version line ≡ Some step → (line ≡ step_text step) × StepFits version step
unfolding step_of_line
line_takes version line step h =
    let t = bind_value (tokens_of line) (step_of_tokens version) step h in
    let r = tokens_take version t.0 step t.2 in
    ((tokens_takes line t.0 t.1).0 ∙ ap line_text r.spelled, r.fits)

line_again : (version : Version) (step : Step) → StepFits version step → step_of_line version (step_text step) ≡ Some step
unfolding step_of_line
line_again version step fits =
    ap (option_and_then (step_of_tokens version)) (tokens_again (step_tokens step) (step_again version step fits).words) ∙ (step_again version step fits).same

-- parts are tokens where a step is read of them, so they need no test before
pub untested_step : (version : Version) (line : List ℕ) → step_of_line version line ≡ step_of_tokens version (slice_split (λ byte. eqb byte 32) line)
unfolding step_of_line
untested_step version line =
    untested (step_of_tokens version) line (λ step h. let r = tokens_take version (slice_split (λ byte. eqb byte 32) line) step h in subst AreTokens (sym r.spelled) (step_again version step r.fits).words)

-- the reader of steps is right
pub step_reads : (version : Version) (line : List ℕ) → Reads step_text (StepFits version) line (step_of_line version line)
step_reads version line = record {
  found = some_or_none (step_of_line version line) (λ step. (line ≡ step_text step) × StepFits version step) (λ step h. line_takes version line step h);
  again = λ step fits e. ap (step_of_line version) e ∙ line_again version step fits;
}
