use Rattle.std.proofs.Common.{map, subst, inr}
use Rattle.occ_cli.proofs.Common.{operation_of, HandsIn, WantsList, PlayedIn, operations_named}
use Rattle.occ_cli.proofs.Replaying.{by_client, no_mover}
use Rattle.occ_cli.proofs.replay_steps.Replay.alone.Goals as goal

pub returns-in_err-place : goal.returns-in_err-place
returns-in_err-place g c =
    inr (no_mover c.self.inside.core.world c.self.inside.clients.items c.args.self.now c.self.view_is c.from_residual.result c.as_slice.result.now c.args.session c.in_err-place.field-0.0
    (λ answer client next. HandsIn c.args.self.now.world.settings.schema (operations_named c.args.self.now.world.settings.schema (map operation_of c.args.operations.items)) client answer next)
    c.as_slice.ensures.value c.from_residual.ensures.1 c.in_err-place.ensures)

pub returns : goal.returns
returns g c =
    let list = map operation_of c.args.operations.items in
    by_client c.self.inside.core.world c.self.inside.clients.items c.args.self.now c.self.view_is c.alone.result
    c.as_slice.result.now c.as_slice.ensures.value c.args.session c.in_ok-place.place c.in_ok-place.ensures c.index_mut-client.result.now c.index_mut-client.ensures.value c.alone.new.self
    (λ world client. WantsList world.settings.schema (operations_named world.settings.schema list) client)
    (λ world answer client next. HandsIn world.settings.schema (operations_named world.settings.schema list) client answer next)
    (subst (λ s. PlayedIn c.index_mut-client.result.now c.alone.new.self c.alone.result (WantsList s (operations_named s list) c.index_mut-client.result.now) (λ answer. HandsIn s (operations_named s list) c.index_mut-client.result.now answer c.alone.new.self)) c.schema.ensures c.alone.ensures)
