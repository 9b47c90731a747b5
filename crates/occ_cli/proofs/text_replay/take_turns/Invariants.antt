use Rattle.std.proofs.Common.{◌-◌, ◌^◌}
use Rattle.occ_cli.proofs.Common.{prepend_known}
use Rattle.occ_cli.proofs.Schedules.{AreSoFar}
use Rattle.occ_cli.proofs.text_replay.take_turns.Given as goal

-- the turns so far were taken, done and answered
abbrev pub invariant-loop-text : goal.invariant-loop-text
invariant-loop-text g l =
    AreSoFar l.fn.quiet l.fn.version l.fn.replay.world.settings.schema (prepend_known l.fn.input.unread (g.R.Read.remaining l.fn.reader)) (prepend_known l.input.unread (g.R.Read.remaining l.reader)) l.fn.replay l.replay
    (g.W.Write.contents l.fn.writer) (g.W.Write.contents l.writer) l.fn.output.held l.output.held l.fn.input.number l.input.number

-- each turn takes a line, and lines are counted in 64 bits
abbrev pub decreases-loop-text : goal.decreases-loop-text
decreases-loop-text g l = 2 ^ 64 - l.input.number
