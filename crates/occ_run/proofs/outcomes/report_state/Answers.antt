use Rattle.occ_run.proofs.Ending.{unreported}
use Rattle.occ_run.proofs.outcomes.report_state.Goals as goal

pub returns-in_err-refused : goal.returns-in_err-refused
returns-in_err-refused g c = unreported c.args.book _ g.N.Name.named _ _ _ c.from_residual.result c.from_residual.ensures.1
