use Rattle.occ_text.specs.Headers.{count_text, Within}
use Rattle.occ_text.proofs.Taking.{line_found}
use Rattle.occ_text.proofs.headers.take_count.Goals as goal

pub returns-clause-gives : goal.returns-clause-gives
returns-clause-gives g c =
    line_found (count_text c.args.word.now) (Within c.args.least c.args.most) c.count.result c.ok_or.result c.line.result.now _ _ c.number.result _ _
    (record { line = c.take_line.new.self.line; taken = c.in_ok-take_line.ensures.gives; same = c.line.ensures; here = c.number.ensures }) c.count.ensures.grammar c.ok_or.ensures.value
