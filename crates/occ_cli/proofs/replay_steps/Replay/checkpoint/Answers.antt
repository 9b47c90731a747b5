use Rattle.occ_cli.proofs.Replaying.{never_off}
use Rattle.occ_cli.proofs.replay_steps.Replay.checkpoint.Goals as goal

pub returns : goal.returns
returns g c = never_off c.call.ensures
