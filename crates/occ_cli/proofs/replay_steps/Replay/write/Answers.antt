use Rattle.std.proofs.Common.{ℕ, subst, inr}
use Rattle.occ_cli.proofs.Common.{Schema, key_of, Writes, WantsWrite, PlayedIn, object_named}
use Rattle.occ_cli.proofs.Replaying.{by_client, no_mover}
use Rattle.occ_cli.proofs.replay_steps.Replay.write.Goals as goal

pub returns-in_err-place : goal.returns-in_err-place
returns-in_err-place g c =
    inr (no_mover c.self.inside.core.world c.self.inside.clients.items c.args.self.now c.self.view_is c.from_residual.result c.as_slice.result.now c.args.session c.in_err-place.field-0.0
    (λ answer client next. Writes c.args.self.now.world.settings.schema (object_named c.args.self.now.world.settings.schema c.args.table.now (key_of c.args.key)) c.args.row client answer next)
    c.as_slice.ensures.value c.from_residual.ensures.1 c.in_err-place.ensures)

pub returns : goal.returns
returns g c =
    let name = c.args.table.now in
    let key = key_of c.args.key in
    let row = c.args.row in
    let client = c.index_mut-client.result.now in
    let next = c.write.new.self in
    by_client c.self.inside.core.world c.self.inside.clients.items c.args.self.now c.self.view_is c.write.result
    c.as_slice.result.now c.as_slice.ensures.value c.args.session c.in_ok-place.place c.in_ok-place.ensures client c.index_mut-client.ensures.value next
    (λ world client. WantsWrite world.settings.schema (object_named world.settings.schema name key) row client)
    (λ world answer client next. Writes world.settings.schema (object_named world.settings.schema name key) row client answer next)
    (subst (λ (s : Schema). PlayedIn client next c.write.result (WantsWrite s (object_named s name key) row client) (λ answer. Writes s (object_named s name key) row client answer next)) c.schema-schema.ensures
    (subst (λ (table : ℕ). PlayedIn client next c.write.result (WantsWrite c.schema-schema.result.now (table, key) row client) (λ answer. Writes c.schema-schema.result.now (table, key) row client answer next))
    c.place_named-table.ensures c.write.ensures))
