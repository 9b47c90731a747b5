use Rattle.std.proofs.Common.{◌∙◌, ap}
use Rattle.occ_cli.proofs.Common.{World, played, step_of}
use Rattle.occ_cli.proofs.Replaying.{fed_so}
use Rattle.occ_cli.proofs.Schedules.{quietly, spoken}
use Rattle.occ_cli.proofs.text_replay.answer_step.Goals as goal

pub returns-then-quiet-clause-gives : goal.returns-then-quiet-clause-gives
returns-then-quiet-clause-gives g c =
    let fed = fed_so c.is_starved.result c.args.replay.now (step_of c.args.step) c.play-done.new.self c.play-done.result c.is_starved.ensures c.if-is_starved.false c.play-done.ensures in
    quietly c.args.quiet c.args.replay.now.world.settings.schema (step_of c.args.step) (played c.play-done.result) c.args.replay.now c.play-done.new.self _ _ c.if-quiet.true fed.0 fed.1

pub returns-clause-gives : goal.returns-clause-gives
returns-clause-gives g c =
    let fed = fed_so c.is_starved.result c.args.replay.now (step_of c.args.step) c.play-done.new.self c.play-done.result c.is_starved.ensures c.if-is_starved.false c.play-done.ensures in
    spoken c.say.result c.args.quiet c.schema.result.now (step_of c.args.step) (played c.play-done.result) c.args.replay.now c.play-done.new.self _ _ _ _ c.if-quiet.false
    (c.schema.ensures ∙ ap (λ (w : World). w.settings.schema) c.core.ensures) fed.0 fed.1 c.say.ensures.gives
