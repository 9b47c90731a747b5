use Rattle.occ_reading.proofs.Common.{again_by, found_by, pair_of}
use Rattle.occ_reading.proofs.RowLines.{pair_reads}
use Rattle.occ_reading.proofs.row_lines.read_pair.Goals as goal

pub returns-clause-found : goal.returns-clause-found
returns-clause-found g c = found_by (pair_of {Z = g.row.A.Denot}) c.pair_value.result _ _ _ _ c.pair_value.ensures.exact (pair_reads c.args.version c.args.schema.now c.args.table c.args.line.now c.tables-tables.ensures.fits)

pub returns-clause-again : goal.returns-clause-again
returns-clause-again g c = again_by (pair_of {Z = g.row.A.Denot}) c.pair_value.result _ _ _ _ c.pair_value.ensures.exact (pair_reads c.args.version c.args.schema.now c.args.table c.args.line.now c.tables-tables.ensures.fits)
