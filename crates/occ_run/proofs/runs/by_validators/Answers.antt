use Rattle.std.proofs.Common.{inl}
use Rattle.occ_run.proofs.Ending.{refused_ends, nothing_written}
use Rattle.occ_run.proofs.runs.by_validators.Goals as goal

pub returns-in_err-clients : goal.returns-in_err-clients
returns-in_err-clients g c = refused_ends c.args.book _ g.N.Name.named _ _ _ c.from_residual.result c.from_residual.ensures.1

pub returns-in_err-groups : goal.returns-in_err-groups
returns-in_err-groups g c = refused_ends c.args.book _ g.N.Name.named _ _ _ c.from_residual-in_err-groups.result c.from_residual-in_err-groups.ensures.1

pub returns-then-has_starved : goal.returns-then-has_starved
returns-then-has_starved g c = inl (nothing_written _)
