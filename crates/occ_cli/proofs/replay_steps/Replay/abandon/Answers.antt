use Rattle.occ_cli.proofs.Common.{Abandons}
use Rattle.occ_cli.proofs.Replaying.{by_both, no_partner}
use Rattle.occ_cli.proofs.replay_steps.Replay.abandon.Goals as goal

pub returns-in_err-place : goal.returns-in_err-place
returns-in_err-place g c =
    no_partner c.self.inside.core.world c.self.inside.clients.items c.args.self.now c.self.view_is c.from_residual.result c.as_slice.result.now c.args.session c.in_err-place.field-0.0
    (λ answer client next. Abandons c.args.self.now.world c.args.session client answer next c.args.self.now.world)
    c.as_slice.ensures.value c.from_residual.ensures.1 c.in_err-place.ensures

pub returns : goal.returns
returns g c =
    by_both c.self.inside.core.world c.self.inside.clients.items c.args.self.now c.self.view_is c.abandon.result
    c.as_slice.result.now c.as_slice.ensures.value c.args.session c.in_ok-place.place c.in_ok-place.ensures c.index_mut-client.result.now c.index_mut-client.ensures.value c.abandon.new.self
    c.abandon.new.core.world
    (λ world answer client next. Abandons world c.args.session client answer next c.abandon.new.core.world) c.abandon.ensures
