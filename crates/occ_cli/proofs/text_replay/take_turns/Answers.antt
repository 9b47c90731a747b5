use Rattle.std.proofs.Common.{Ok, Err, ◌∙◌, ap, true, false}
use Rattle.occ_cli.proofs.Common.{err_from_is_err_and}
use Rattle.occ_cli.proofs.Schedules.{so_far_none, so_far_more, so_far_end, so_far_stopped, turn_under}
use Rattle.occ_cli.proofs.text_replay.take_turns.Goals as goal

pub loop-text-init : goal.loop-text-init
loop-text-init g c = so_far_none c.args.quiet c.args.version c.args.replay.now.world.settings.schema _ c.args.replay.now _ c.args.output.now.held c.args.input.now.number

pub loop-text-preserved : goal.loop-text-preserved
loop-text-preserved g c =
    let schema = c.args.replay.now.world.settings.schema in
    let gives = rw c.if-branch.true at c.in_ok-take_turn.ensures.gives in
    so_far_more c.args.quiet c.args.version schema _ _ _ _ _ _ _ _ _ _ _ _ _ _ _ c.loop-text.invariant (turn_under c.args.quiet c.args.version (Ok true) _ _ _ c.args.replay.now _ _ _ _ _ _ _ _ _ _ _ c.loop-text.invariant gives)

pub returns-in_err-take_turn-clause-gives : goal.returns-in_err-take_turn-clause-gives
returns-in_err-take_turn-clause-gives g c =
    let schema = c.args.replay.now.world.settings.schema in
    let p = err_from_is_err_and c.from_residual.result c.from_residual.ensures.1 in
    so_far_stopped c.from_residual.result c.in_err-take_turn.field-0.0 c.args.quiet c.args.version schema _ _ _ _ _ _ _ _ _ _ _ _ _ _ c.take_turn.new.input.number (p.1 ∙ ap Err p.2) c.loop-text.invariant
    (turn_under c.args.quiet c.args.version (Err c.in_err-take_turn.field-0.0) _ _ _ c.args.replay.now _ _ _ _ _ _ _ _ _ _ c.take_turn.new.input.number c.loop-text.invariant c.in_err-take_turn.ensures.gives)

pub returns-clause-gives : goal.returns-clause-gives
returns-clause-gives g c =
    let schema = c.args.replay.now.world.settings.schema in
    let gives = rw c.if-branch.false at c.in_ok-take_turn.ensures.gives in
    so_far_end c.args.quiet c.args.version schema _ _ _ _ _ _ _ _ _ _ _ _ _ _ c.take_turn.new.input.number c.loop-text.invariant
    (turn_under c.args.quiet c.args.version (Ok false) _ _ _ c.args.replay.now _ _ _ _ _ _ _ _ _ _ c.take_turn.new.input.number c.loop-text.invariant gives)
