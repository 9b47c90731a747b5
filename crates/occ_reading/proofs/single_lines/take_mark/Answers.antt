use Rattle.std.proofs.Common.{◌<◌, ◌∙◌, Err, sym, arith}
use Rattle.occ_reading.proofs.Common.{Mark, MarkFits, line_found, mark_text, read_fault, widened}
use Rattle.occ_reading.proofs.SingleLines.{line_barred, narrowed, widened_is}
use Rattle.occ_reading.proofs.single_lines.take_mark.Goals as goal

pub returns-in_err-mark-clause-taken : goal.returns-in_err-mark-clause-taken
returns-in_err-mark-clause-taken g c =
    let fault = c.in_err-mark.field-0.0 in
    let t = line_found (mark_text c.args.section) (MarkFits c.args.sessions) c.read_mark.result (Err fault) c.line.result.now _ _ c.number.result _ _
    (record { line = c.take_line.new.self.line; taken = c.in_ok-take_line.ensures.gives; same = c.line.ensures; here = c.number.ensures }) c.read_mark.ensures.grammar c.in_err-mark.ensures.value in
    narrowed (λ (mark : Mark). mark) (mark_text c.args.section) (MarkFits c.args.sessions) (λ mark. c.args.last < mark.session) (read_fault fault) (widened c.from_residual-in_err-mark.result) _ _ _ _
    (widened_is c.from_residual-in_err-mark.result fault c.from_residual-in_err-mark.ensures.1) t

pub returns-then-mark-last-clause-taken : goal.returns-then-mark-last-clause-taken
returns-then-mark-last-clause-taken g c =
    line_barred (mark_text c.args.section) (MarkFits c.args.sessions) (λ mark. c.args.last < mark.session) c.in_ok-mark.mark c.line.result.now _ _ c.number-then-mark-last.result _ _
    (record { line = c.take_line.new.self.line; taken = c.in_ok-take_line.ensures.gives; same = c.line.ensures; here = c.number-then-mark-last.ensures })
    (λ mark fits same. let e = sym (c.read_mark.ensures.grammar.again mark fits same) ∙ c.in_ok-mark.ensures.ok_part in cc e) (λ lt. absurd (omega arith))
