use Rattle.std.proofs.Common.{ℕ, ap, subst, ◌∙◌}
use Rattle.occ_cli.proofs.Common.{One, key_of, ByStore, Replayed, place_named, played}
use Rattle.occ_model.specs.Event as events
use Rattle.occ_cli.proofs.Replaying.{never_off}
use Rattle.occ_cli.proofs.replay_steps.Replay.read_raw.Goals as goal

-- the store is asked for the table of that name
pub returns : goal.returns
returns g c =
    let place = c.place_named-table.ensures ∙ ap (λ s. place_named s c.args.table.now) (c.schema.ensures ∙ ap (λ (r : Replayed). r.world.settings.schema) c.self.view_is) in
    subst (λ (t : ℕ). ByStore c.args.self.now (events.Read c.args.session c.args.number c.args.start (One t (key_of c.args.key))) (played c.call.result) c.call.new.self) place (never_off c.call.ensures)
