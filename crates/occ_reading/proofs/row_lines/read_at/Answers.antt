use Rattle.occ_reading.proofs.Common.{again_by, at_of, found_by}
use Rattle.occ_reading.proofs.RowLines.{at_reads}
use Rattle.occ_reading.proofs.row_lines.read_at.Goals as goal

pub returns-clause-found : goal.returns-clause-found
returns-clause-found g c = found_by (at_of {Z = g.row.A.Denot}) c.at_value.result _ _ _ _ c.at_value.ensures.exact (at_reads c.args.version c.args.section c.args.schema.now c.args.line.now c.tables-tables.ensures.fits)

pub returns-clause-again : goal.returns-clause-again
returns-clause-again g c = again_by (at_of {Z = g.row.A.Denot}) c.at_value.result _ _ _ _ c.at_value.ensures.exact (at_reads c.args.version c.args.section c.args.schema.now c.args.line.now c.tables-tables.ensures.fits)
