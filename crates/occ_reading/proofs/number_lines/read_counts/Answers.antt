use Rattle.occ_reading.proofs.Common.{counts_of_line, field_reads}
use Rattle.occ_reading.proofs.NumberLines.{counts_field}
use Rattle.occ_reading.proofs.number_lines.read_counts.Goals as goal

pub returns-clause-grammar : goal.returns-clause-grammar
unfolding counts_of_line
returns-clause-grammar c = field_reads counts_field c.counts_of_line.ensures
