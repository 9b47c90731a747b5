use Rattle.occ_reading.proofs.Common.{again_by, asked_of, found_by}
use Rattle.occ_reading.proofs.RowLines.{asked_reads}
use Rattle.occ_reading.proofs.row_lines.read_asked.Goals as goal

pub returns-clause-found : goal.returns-clause-found
returns-clause-found g c = found_by (asked_of {Z = g.row.A.Denot}) c.asked_value.result _ _ _ _ c.asked_value.ensures.exact (asked_reads c.args.version c.args.schema.now c.args.line.now c.tables-tables.ensures.fits)

pub returns-clause-again : goal.returns-clause-again
returns-clause-again g c = again_by (asked_of {Z = g.row.A.Denot}) c.asked_value.result _ _ _ _ c.asked_value.ensures.exact (asked_reads c.args.version c.args.schema.now c.args.line.now c.tables-tables.ensures.fits)
