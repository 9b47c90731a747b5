use Rattle.std.proofs.Common.{ℕ, ap, subst, ◌∙◌, inr}
use Rattle.occ_types.specs.Question.{Question}
use Rattle.occ_cli.proofs.Common.{Span, end_of, PlayedIn, Scans, WantsScan, place_named, span_named}
use Rattle.occ_cli.proofs.Replaying.{by_asking, no_asker}
use Rattle.occ_cli.proofs.replay_steps.Replay.scan.Goals as goal

pub returns-in_err-place : goal.returns-in_err-place
returns-in_err-place g c =
    inr (no_asker c.self.inside.core.world c.self.inside.clients.items c.args.self.now c.self.view_is c.from_residual.result c.as_slice.result.now c.args.session c.in_err-place.field-0.0
    (λ answer client. Scans c.args.self.now.world c.args.session (span_named c.args.self.now.world.settings.schema c.args.table.now (end_of c.args.lower) (end_of c.args.upper)) client answer c.args.self.now.world)
    c.as_slice.ensures.value c.from_residual.ensures.1 c.in_err-place.ensures)

pub returns : goal.returns
returns g c =
    let world = c.self.inside.core.world in
    let lower = end_of c.args.lower in
    let upper = end_of c.args.upper in
    let client = c.index-client.result.now in
    by_asking world c.self.inside.clients.items c.args.self.now c.self.view_is c.scan.result
    c.as_slice.result.now c.as_slice.ensures.value c.args.session c.in_ok-place.place c.in_ok-place.ensures client c.index-client.ensures c.scan.new.core.world
    (λ w client. WantsScan w (span_named w.settings.schema c.args.table.now lower upper) client)
    (λ w answer client. Scans w c.args.session (span_named w.settings.schema c.args.table.now lower upper) client answer c.scan.new.core.world)
    (subst (λ (table : ℕ). PlayedIn world c.scan.new.core.world c.scan.result (WantsScan world (Span table lower upper) client) (λ answer. Scans world c.args.session (Span table lower upper) client answer c.scan.new.core.world))
    (c.place_named-table.ensures ∙ ap (λ s. place_named s c.args.table.now) c.schema.ensures)
    (subst (λ (q : Question). PlayedIn world c.scan.new.core.world c.scan.result (WantsScan world q client) (λ answer. Scans world c.args.session q client answer c.scan.new.core.world))
    (λ i. Span c.place_named-table.result (end_of (c.as_ref.ensures.value i)) (end_of (c.as_ref-2.ensures.value i))) c.scan.ensures))
