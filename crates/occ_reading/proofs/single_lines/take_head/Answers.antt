use Rattle.occ_reading.proofs.Common.{HeadFits, head_text, line_found}
use Rattle.occ_reading.proofs.single_lines.take_head.Goals as goal

pub returns-clause-taken : goal.returns-clause-taken
returns-clause-taken g c =
    line_found head_text (HeadFits c.args.sessions) c.read_head.result c.ok_or.result c.line.result.now _ _ c.number.result _ _
    (record { line = c.take_line.new.self.line; taken = c.in_ok-take_line.ensures.gives; same = c.line.ensures; here = c.number.ensures }) c.read_head.ensures.grammar c.ok_or.ensures.value
