use Rattle.occ_reading.proofs.Common.{field_reads, head_of_line}
use Rattle.occ_reading.proofs.NumberLines.{head_field}
use Rattle.occ_reading.proofs.number_lines.read_head.Goals as goal

pub returns-clause-grammar : goal.returns-clause-grammar
unfolding head_of_line
returns-clause-grammar c = field_reads (head_field c.args.sessions c.ranges.sessions.fits) c.head_of_line.ensures
