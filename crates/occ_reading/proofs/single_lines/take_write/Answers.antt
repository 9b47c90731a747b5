use Rattle.occ_reading.proofs.Common.{WriteFits, write_line, write_of}
use Rattle.occ_reading.proofs.SingleLines.{line_read}
use Rattle.occ_reading.proofs.single_lines.take_write.Goals as goal

pub returns-clause-taken : goal.returns-clause-taken
returns-clause-taken g c =
    line_read (write_of {Z = g.row.A.Denot}) (write_line c.args.schema.now) (WriteFits c.args.version c.args.schema.now) c.read_write.result c.read_at_line.result c.line.result.now _ _ c.number.result _ _
    (record { line = c.take_line.new.self.line; taken = c.in_ok-take_line.ensures.gives; same = c.line.ensures; here = c.number.ensures })
    (record { found = c.read_write.ensures.found; again = c.read_write.ensures.again }) c.read_at_line.ensures.exact
