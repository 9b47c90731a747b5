use Rattle.occ_reading.proofs.Common.{again_by, found_by, write_of}
use Rattle.occ_reading.proofs.RowLines.{write_reads}
use Rattle.occ_reading.proofs.row_lines.read_write.Goals as goal

pub returns-clause-found : goal.returns-clause-found
returns-clause-found g c = found_by (write_of {Z = g.row.A.Denot}) c.write_value.result _ _ _ _ c.write_value.ensures.exact (write_reads c.args.version c.args.schema.now c.args.line.now c.tables-tables.ensures.fits)

pub returns-clause-again : goal.returns-clause-again
returns-clause-again g c = again_by (write_of {Z = g.row.A.Denot}) c.write_value.result _ _ _ _ c.write_value.ensures.exact (write_reads c.args.version c.args.schema.now c.args.line.now c.tables-tables.ensures.fits)
