use Rattle.occ_reading.proofs.Common.{CountsFit, counts_text, line_found}
use Rattle.occ_reading.proofs.single_lines.take_counts.Goals as goal

pub returns-clause-taken : goal.returns-clause-taken
returns-clause-taken g c =
    line_found counts_text CountsFit c.read_counts.result c.ok_or.result c.line.result.now _ _ c.number.result _ _
    (record { line = c.take_line.new.self.line; taken = c.in_ok-take_line.ensures.gives; same = c.line.ensures; here = c.number.ensures }) c.read_counts.ensures.grammar c.ok_or.ensures.value
