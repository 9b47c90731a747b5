use Rattle.occ_run.proofs.Tries.{attempting_goes}
use Rattle.occ_run.proofs.trying.AttemptBody.run.Goals as goal

pub returns-in-Ok-clause-keeps : goal.returns-in-Ok-clause-keeps
returns-in-Ok-clause-keeps g c = attempting_goes g.N.Name.named _ _ c.run.ensures.keeps

pub returns-in-Err-clause-made : goal.returns-in-Err-clause-made
returns-in-Err-clause-made g c = (c.in-Err.fault, c.unmade.ensures, c.in-Err.ensures.made)

pub returns-in-Err-clause-keeps : goal.returns-in-Err-clause-keeps
returns-in-Err-clause-keeps g c = attempting_goes g.N.Name.named _ _ c.run.ensures.keeps
