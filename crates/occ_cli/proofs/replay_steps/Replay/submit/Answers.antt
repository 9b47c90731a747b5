use Rattle.occ_cli.proofs.Common.{Submits}
use Rattle.occ_cli.proofs.Replaying.{by_sure_client, no_mover}
use Rattle.occ_cli.proofs.replay_steps.Replay.submit.Goals as goal

pub returns-in_err-place : goal.returns-in_err-place
returns-in_err-place g c =
    no_mover c.self.inside.core.world c.self.inside.clients.items c.args.self.now c.self.view_is c.from_residual.result c.as_slice.result.now c.args.session c.in_err-place.field-0.0
    (λ answer client next. Submits client answer next)
    c.as_slice.ensures.value c.from_residual.ensures.1 c.in_err-place.ensures

pub returns : goal.returns
returns g c =
    by_sure_client c.self.inside.core.world c.self.inside.clients.items c.args.self.now c.self.view_is c.submit.result
    c.as_slice.result.now c.as_slice.ensures.value c.args.session c.in_ok-place.place c.in_ok-place.ensures c.index_mut-client.result.now c.index_mut-client.ensures.value c.submit.new.self
    (λ world answer client next. Submits client answer next) c.submit.ensures
