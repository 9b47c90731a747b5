use Rattle.occ_cli.proofs.Common.{printed_nothing}
use Rattle.occ_cli.proofs.text_replay.say.Goals as goal

pub returns-in_err-write_played-clause-gives : goal.returns-in_err-write_played-clause-gives
returns-in_err-write_played-clause-gives g c = printed_nothing _ c.from_residual.result _ _ _ c.from_residual.ensures.1
