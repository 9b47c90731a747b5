use Rattle.occ_reading.proofs.NumberLines.{base_reads}
use Rattle.occ_reading.proofs.number_lines.read_base.Goals as goal

pub returns-clause-grammar : goal.returns-clause-grammar
returns-clause-grammar c = base_reads c.args.line.now c.base_of_line.result c.base_of_line.ensures
