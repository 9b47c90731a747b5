use Rattle.std.proofs.Common.{List, subst}
use Rattle.occ_cli.proofs.Common.{Write, ByStore, played}
use Rattle.occ_model.specs.Event as events
use Rattle.occ_cli.proofs.Replaying.{never_off}
use Rattle.occ_cli.proofs.replay_steps.Replay.forge.Goals as goal

-- the store is handed a request without writes
pub returns : goal.returns
returns g c =
    subst (λ (writes : List Write). ByStore c.args.self.now (events.Enter c.args.session (events.Request c.args.number c.args.start writes)) (played c.call.result) c.call.new.self) c.new-writes.ensures (never_off c.call.ensures)
