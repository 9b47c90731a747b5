use Rattle.occ_reading.proofs.Common.{AskedFits, asked_of, asked_text}
use Rattle.occ_reading.proofs.SingleLines.{line_read}
use Rattle.occ_reading.proofs.single_lines.take_asked.Goals as goal

pub returns-clause-taken : goal.returns-clause-taken
returns-clause-taken g c =
    line_read (asked_of {Z = g.row.A.Denot}) (asked_text c.args.schema.now) (AskedFits c.args.version c.args.schema.now) c.read_asked.result c.read_at_line.result c.line.result.now _ _ c.number.result _ _
    (record { line = c.take_line.new.self.line; taken = c.in_ok-take_line.ensures.gives; same = c.line.ensures; here = c.number.ensures })
    (record { found = c.read_asked.ensures.found; again = c.read_asked.ensures.again }) c.read_at_line.ensures.exact
