use Rattle.occ_reading.proofs.Common.{field_reads, mark_of_line}
use Rattle.occ_reading.proofs.NumberLines.{mark_field}
use Rattle.occ_reading.proofs.number_lines.read_mark.Goals as goal

pub returns-clause-grammar : goal.returns-clause-grammar
unfolding mark_of_line
returns-clause-grammar c = field_reads (mark_field c.args.section c.args.sessions c.ranges.sessions.fits) c.mark_of_line.ensures
