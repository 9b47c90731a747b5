use Rattle.std.proofs.Common.{None}
use Rattle.occ_filed.proofs.Filing.{entered_filed}
use Rattle.occ_filed.proofs.filed_core.FiledCore.enter.Goals as goal

pub returns-in-Ok-clause-step : goal.returns-in-Ok-clause-step
returns-in-Ok-clause-step g c = (c.file_entered-case.ensures.kept.0, entered_filed _ _ _ _ _ _ _ c.in-Ok.ensures.step c.file_entered-case.ensures.kept.1)

pub returns-in-Err-clause-step : goal.returns-in-Err-clause-step
returns-in-Err-clause-step g c = (None, c.in-Err.ensures.step)
