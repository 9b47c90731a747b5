use Rattle.occ_run.proofs.Ending.{refused_ends}
use Rattle.occ_run.proofs.runs.by_workers.Goals as goal

pub returns-in_err-clients : goal.returns-in_err-clients
returns-in_err-clients g c = refused_ends c.args.book _ g.N.Name.named _ _ _ c.from_residual.result c.from_residual.ensures.1

pub returns-in_err-workers : goal.returns-in_err-workers
returns-in_err-workers g c = refused_ends c.args.book _ g.N.Name.named _ _ _ c.from_residual-in_err-workers.result c.from_residual-in_err-workers.ensures.1

pub returns-in_err-clients-2 : goal.returns-in_err-clients-2
returns-in_err-clients-2 g c = refused_ends c.args.book _ g.N.Name.named _ _ _ c.from_residual-in_err-clients-2.result c.from_residual-in_err-clients-2.ensures.1
