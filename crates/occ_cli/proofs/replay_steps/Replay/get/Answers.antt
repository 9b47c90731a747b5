use Rattle.std.proofs.Common.{ℕ, ap, subst, ◌∙◌, inr}
use Rattle.occ_cli.proofs.Common.{key_of, Gets, PlayedIn, WantsGet, object_named, place_named}
use Rattle.occ_cli.proofs.Replaying.{by_asking, no_asker}
use Rattle.occ_cli.proofs.replay_steps.Replay.get.Goals as goal

pub returns-in_err-place : goal.returns-in_err-place
returns-in_err-place g c =
    inr (no_asker c.self.inside.core.world c.self.inside.clients.items c.args.self.now c.self.view_is c.from_residual.result c.as_slice.result.now c.args.session c.in_err-place.field-0.0
    (λ answer client. Gets c.args.self.now.world c.args.session (object_named c.args.self.now.world.settings.schema c.args.table.now (key_of c.args.key)) client answer c.args.self.now.world)
    c.as_slice.ensures.value c.from_residual.ensures.1 c.in_err-place.ensures)

pub returns : goal.returns
returns g c =
    let world = c.self.inside.core.world in
    let key = key_of c.args.key in
    let client = c.index-client.result.now in
    by_asking world c.self.inside.clients.items c.args.self.now c.self.view_is c.get.result
    c.as_slice.result.now c.as_slice.ensures.value c.args.session c.in_ok-place.place c.in_ok-place.ensures client c.index-client.ensures c.get.new.core.world
    (λ w client. WantsGet w c.args.session (object_named w.settings.schema c.args.table.now key) client)
    (λ w answer client. Gets w c.args.session (object_named w.settings.schema c.args.table.now key) client answer c.get.new.core.world)
    (subst (λ (table : ℕ). PlayedIn world c.get.new.core.world c.get.result (WantsGet world c.args.session (table, key) client) (λ answer. Gets world c.args.session (table, key) client answer c.get.new.core.world))
    (c.place_named-table.ensures ∙ ap (λ s. place_named s c.args.table.now) c.schema.ensures) c.get.ensures)
