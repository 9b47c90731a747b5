use Rattle.std.proofs.Common.{◌∙◌}
use Rattle.std.specs.Io.KnownBytes.{prepend_known}
use Rattle.occ_c.proofs.Holdings.{line_stands, no_end}
use Rattle.occ_c.proofs.texts.take_end.Goals as goal

pub returns-in_err-next_line : goal.returns-in_err-next_line
returns-in_err-next_line g c =
    no_end c.in_err-next_line.field-0.0 c.from_residual.result (prepend_known c.args.input.now.unread (g.R.Read.remaining c.args.reader.now)) (prepend_known c.next_line.new.self.unread (g.R.Read.remaining c.next_line.new.reader))
    c.args.input.now c.next_line.new.self c.from_residual.ensures.1 c.in_err-next_line.ensures.gives

pub returns-in-Line : goal.returns-in-Line
returns-in-Line g c =
    let l = rw c.in-Line.is at c.in_ok-next_line.ensures.gives in
    (line_stands (prepend_known c.args.input.now.unread (g.R.Read.remaining c.args.reader.now)) (prepend_known c.next_line.new.self.unread (g.R.Read.remaining c.next_line.new.reader)) c.next_line.new.self.line l.0, c.number.ensures ∙ l.2)
