use Rattle.occ_text.specs.StepReading.{step_of_line}
use Rattle.occ_text.specs.Steps.{step_of, step_text, StepFits}
use Rattle.occ_text.proofs.StepLines.{step_reads}
use Rattle.occ_text.proofs.Values.{found_by, again_by}
use Rattle.occ_text.proofs.step_reading.read_step.Goals as goal

pub returns-clause-found : goal.returns-clause-found
returns-clause-found g c = found_by step_of c.step_value.result (step_of_line c.args.version c.args.line.now) step_text (StepFits c.args.version) c.args.line.now c.step_value.ensures (step_reads c.args.version c.args.line.now)

pub returns-clause-again : goal.returns-clause-again
returns-clause-again g c = again_by step_of c.step_value.result (step_of_line c.args.version c.args.line.now) step_text (StepFits c.args.version) c.args.line.now c.step_value.ensures (step_reads c.args.version c.args.line.now)
