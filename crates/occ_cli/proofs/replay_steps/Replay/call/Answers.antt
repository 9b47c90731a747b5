use Rattle.occ_cli.proofs.Replaying.{by_calling}
use Rattle.occ_cli.proofs.replay_steps.Replay.call.Goals as goal

pub returns : goal.returns
returns g c = by_calling c.self.inside.core c.self.inside.clients.items c.args.self.now c.self.view_is c.args.call c.take.result c.take.new.self c.take.ensures
