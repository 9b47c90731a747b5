use Rattle.occ_cli.proofs.Common.{step_of}
use Rattle.occ_cli.proofs.Schedules.{turn_stopped, turn_unread}
use Rattle.occ_cli.proofs.text_replay.take_turn.Goals as goal

pub returns-in_err-step-clause-gives : goal.returns-in_err-step-clause-gives
returns-in_err-step-clause-gives g c =
    let taken = rw c.in-Line.is at c.in_ok-next_line.ensures.gives in
    turn_unread (step_of {Z = g.row.A.Denot}) c.read_step.result c.in_err-step.field-0.0 c.from_residual-in_err-step.result c.args.quiet c.args.version c.args.replay.now.world.settings.schema _ _ _ _ c.line.result.now _ _ _ _ c.args.replay.now c.from_residual-in_err-step.ensures.1 taken c.line.ensures c.number.ensures
    c.read_step.ensures.again c.in_err-step.ensures.exact

pub returns-in_err-next_line-clause-gives : goal.returns-in_err-next_line-clause-gives
returns-in_err-next_line-clause-gives g c = turn_stopped c.in_err-next_line.field-0.0 c.from_residual.result c.args.quiet c.args.version c.args.replay.now.world.settings.schema _ _ _ _ _ _ c.args.replay.now c.from_residual.ensures.1 c.in_err-next_line.ensures.gives
